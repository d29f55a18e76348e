-- What is in front of this place is digits.
use Rattle.std.proofs.Common.{◌≡◌, ◌+◌, true, drop, take}
use Rattle.std.specs.List.{list_all}
use Rattle.std.specs.Char.{is_ascii_digit}
use Rattle.stp_frac.specs.Reading.{leading}
use Rattle.stp_frac.proofs.read.leading.Given as goal

abbrev pub invariant-loop-place : goal.invariant-loop-place
invariant-loop-place l = record {
  value : l.place + leading (drop l.place l.text) ≡ leading l.text;
  digits : list_all is_ascii_digit (take l.place l.text) ≡ true;
}
