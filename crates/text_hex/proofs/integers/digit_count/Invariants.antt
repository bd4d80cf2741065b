use Prim.Native.Nat.{◌^◌, ◌<◌}
use Rattle.text_hex.specs.Digits.{number_of}
use Rattle.text_hex.proofs.integers.digit_count.Given as goal

abbrev pub invariant-loop-last : goal.invariant-loop-last
invariant-loop-last l = number_of l.number < 16 ^ l.last
