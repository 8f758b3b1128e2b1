-- After t turns the first t rates are right, and are copied.
use Rattle.std.proofs.Common.{◌≡◌, true, ◌++◌, drop, length, take}
use Rattle.model.specs.Fields.{right_all}
use Rattle.model.specs.Layout.{daily_rate}
use Rattle.rolling.proofs.checked.Given as goal

abbrev pub invariant-loop-t : goal.invariant-loop-t
invariant-loop-t l = record {
  right : right_all (daily_rate 2) (take l.t l.new.rates) ≡ true;
  terms : length l.rates ≡ 60;
  copied : l.rates ≡ take l.t l.new.rates ++ drop l.t l.initial.rates;
}
