-- Commands that read their whole input and print one answer.
use Rattle.std.proofs.Common.{◌≡◌, ℕ, List, Option, Some, None, Result, Ok, Err, refl, inl, inr}
use Rattle.lt_port.specs.Streams.{Incoming, Outgoing, counts_after}
use Rattle.lt_port.specs.declared.failure.PortError.{PortError}
use Rattle.lt_port.specs.declared.failure.PortError.TheVariants as ports
use Rattle.std.specs.Io.KnownBytes.{Keeps}
use Rattle.lineage_cli.specs.declared.ending.Ending.{Ending}
use Rattle.lineage_cli.specs.declared.ending.Ending.TheVariants.{Usage, InputFault, InputLimit, Input, Table, Illegal, OutFault, Memory}
use Rattle.lineage_cli.specs.Answers.{Answer, Prints, Answers}
use Rattle.lineage_cli.specs.Ending.{class_of, printed_so}
use Rattle.lineage_cli.specs.Input.{IsAll, IsUnread}
use Rattle.lineage_cli.specs.Leaves.{Leaves, LeavesInput, LeavesOutput, ended_class}
use Rattle.lineage_cli.specs.Output.{Puts}

-- known bytes keep as they are
pub keeps_still : (known : Option (List ℕ)) → Keeps known known
keeps_still None = tt
keeps_still (Some xs) = refl

-- ---- the answer is printed

-- what became of the text that is the answer
pub prints_text : (Is : Answer) (before now : Option (List ℕ)) (done : Result (Unit {0}) PortError) (text : List ℕ) → Is (Ok text) → Puts before now done text → Prints Is before now (printed_so done)
prints_text Is before now (Ok done) text answer put = record { text = text; answer = answer; gained = put }
prints_text Is before now (Err ports.Failed) text answer put = record { text = text; answer = answer; gained = put }
prints_text Is before now (Err ports.Memory) text answer put = inr (record { text = text; answer = answer; gained = put })

-- and of the output
pub leaves_printed : (out outs : Outgoing) (done : Result (Unit {0}) PortError) → outs.counts ≡ counts_after done out.counts → LeavesOutput (ended_class (printed_so done)) out outs
leaves_printed out outs (Ok done) counted = counted
leaves_printed out outs (Err ports.Failed) counted = counted
leaves_printed out outs (Err ports.Memory) counted = inr counted

-- ---- the command

-- an answer is printed only by a run that read its input, so its words were right, and its input didn't fail
leaves_read : (Is : Answer) (before now : Option (List ℕ)) (ended : Result (Unit {0}) Ending) (input inputs : Incoming) → Prints Is before now ended → inputs.faults ≡ input.faults → LeavesInput (ended_class ended) input inputs
leaves_read Is before now (Ok done) input inputs prints same = same
leaves_read Is before now (Err Usage) input inputs prints same = absurd prints
leaves_read Is before now (Err InputFault) input inputs prints same = absurd prints
leaves_read Is before now (Err (InputLimit found)) input inputs prints same = same
leaves_read Is before now (Err (Input line)) input inputs prints same = same
leaves_read Is before now (Err (Table refusal)) input inputs prints same = same
leaves_read Is before now (Err (Illegal entry rule)) input inputs prints same = same
leaves_read Is before now (Err OutFault) input inputs prints same = same
leaves_read Is before now (Err Memory) input inputs prints same = same

-- an input that is not read whole leaves the output as it is
leaves_unread : (most : ℕ) (before now : Option (List ℕ)) (ending : Ending) (out : Outgoing) → IsUnread most before now ending → LeavesOutput (Some (class_of ending)) out out
leaves_unread most before now InputFault out unread = refl
leaves_unread most before now (InputLimit found) out unread = refl
leaves_unread most before now Memory out unread = inl refl
leaves_unread most before now Usage out unread = absurd unread.stops
leaves_unread most before now (Input line) out unread = absurd unread.stops
leaves_unread most before now (Table refusal) out unread = absurd unread.stops
leaves_unread most before now (Illegal entry rule) out unread = absurd unread.stops
leaves_unread most before now OutFault out unread = absurd unread.stops

-- the input was read, and the answer printed
pub answered : (most : ℕ) (Has : List ℕ → Answer) (bytes : List ℕ) (input inputs : Incoming) (out outs : Outgoing) (ended : Result (Unit {0}) Ending)
    → IsAll most input.left inputs.left bytes → Prints (Has bytes) out.written outs.written ended
    → (error : Outgoing) → Answers most Has (record { input = input; output = out; error = error }) (record { input = inputs; output = outs; error = error }) ended
answered most Has bytes input inputs out outs ended all prints error = inl (record { bytes = bytes; all = all; prints = prints })

-- what that leaves
pub answered_leaves : (Is : Answer) (input inputs : Incoming) (out outs : Outgoing) (ended : Result (Unit {0}) Ending)
    → Prints Is out.written outs.written ended → inputs.faults ≡ input.faults → LeavesOutput (ended_class ended) out outs
    → (error : Outgoing) → Leaves (ended_class ended) (record { input = input; output = out; error = error }) (record { input = inputs; output = outs; error = error })
answered_leaves Is input inputs out outs ended prints same leaves error =
    record { input = leaves_read Is out.written outs.written ended input inputs prints same; output = leaves; error = refl }

-- the input was not read whole
pub unanswered : (most : ℕ) (Has : List ℕ → Answer) (input inputs : Incoming) (out : Outgoing) (ending : Ending)
    → IsUnread most input.left inputs.left ending
    → (error : Outgoing) → Answers most Has (record { input = input; output = out; error = error }) (record { input = inputs; output = out; error = error }) (Err ending)
unanswered most Has input inputs out ending unread error = inr (record { ending = ending; so = refl; unread = unread; kept = refl })

-- what that leaves
pub unanswered_leaves : (most : ℕ) (input inputs : Incoming) (out : Outgoing) (ending : Ending)
    → IsUnread most input.left inputs.left ending → LeavesInput (Some (class_of ending)) input inputs
    → (error : Outgoing) → Leaves (Some (class_of ending)) (record { input = input; output = out; error = error }) (record { input = inputs; output = out; error = error })
unanswered_leaves most input inputs out ending unread leaves error =
    record { input = leaves; output = leaves_unread most input.left inputs.left ending out unread; error = refl }
