-- The statistics of a data file that has none.
use Rattle.std.specs.Prelude.{None}
use Rattle.file_types.specs.declared.stats.Stats.{Stats}

abbrev pub no_stats : Stats
no_stats = record {
  sizes = None;
  values = None;
  nulls = None;
  nans = None;
  lower = None;
  upper = None;
  key = None;
  splits = None;
  equality = None;
  order = None;
}
