-- Which runs answer: their input is one that the command accepts, and no call on a stream fails.
use Rattle.std.specs.Prelude.{◌≡◌, ℕ, ◌-◌, ◌^◌, ◌<◌, ◌≤◌, List, length, Some}
use Rattle.lineage_cli.specs.Outside.{Outside}

-- the input states that these bytes are left, and they are within its limit
pub record HasInput (most : ℕ) (before : Outside) (bytes : List ℕ) : Type 0 where
  pub left : before.input.left ≡ Some bytes
  pub few : length bytes ≤ most

-- no call on the input or the output failed: their counts, which can still rise, did not
pub record NoneFailed (before after : Outside) : Type 0 where
  pub input : after.input.faults ≡ before.input.faults
  pub output : after.output.counts.faults ≡ before.output.counts.faults
  pub input_may_rise : before.input.faults < 2 ^ 64 - 1
  pub output_may_rise : before.output.counts.faults < 2 ^ 64 - 1
