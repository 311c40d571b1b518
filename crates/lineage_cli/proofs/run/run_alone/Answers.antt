use Rattle.std.proofs.Common.{Ok, Err, refl}
use Rattle.lineage_cli.proofs.run.run_alone.Goals as goal

pub returns-in-Ok : goal.returns-in-Ok
returns-in-Ok g c =
    let error = g.E.Sink.seen c.args.err.now in
    record {
      ended = Ok tt;
      served = record { input = g.S.Source.seen c.serve.new.input; output = g.W.Sink.seen c.serve.new.out; error = error };
      serves = c.in-Ok.ensures error;
      tells = (refl, refl);
    }

pub returns-in-Err : goal.returns-in-Err
returns-in-Err g c =
    let error = g.E.Sink.seen c.args.err.now in
    record {
      ended = Err c.in-Err.ending;
      served = record { input = g.S.Source.seen c.serve.new.input; output = g.W.Sink.seen c.serve.new.out; error = error };
      serves = c.in-Err.ensures error;
      tells = (c.status_of.ensures, refl, refl, c.tell.ensures);
    }
