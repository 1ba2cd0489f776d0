-- The laws of runs: what one step keeps, so many steps keep.
use Rattle.std.proofs.Common.{ℕ, zero, suc, ◌+◌, ◌≤◌, subst, if◌then◌else◌, arith}
use Rattle.eval_machine.specs.Configuration.{Setting, Configuration}
use Rattle.eval_machine.specs.Run.{next, steps, start, begins, forms_begun}
use Rattle.eval_machine.specs.RunLaws.{LawOfPrinting, LawOfReading, LawOfUnits, LawOfWords}
use Rattle.eval_machine.proofs.Kept.{Progress, progress, counted, IsLater, FineControl, IsFine, further}
use Rattle.eval_machine.proofs.Outcomes.{LaterConfiguration, unchanged, next_keeps}

-- some units, and others behind them
both_counted : (a b : ℕ) (x y z : Progress) → IsLater (counted a x) y → IsLater (counted b y) z → IsLater (counted (a + b) x) z
both_counted a b x y z p q =
    let way : IsLater (counted a x) z = further p (record { printed = q.printed; left = q.left; units = less y.units b z.units q.units }) in
    record { printed = way.printed; left = way.left; units = sum x.units a b y.units z.units p.units q.units }
  where
    less : (u b v : ℕ) → u + b ≤ v → u ≤ v
    less u b v h = omega arith

    sum : (x a b y z : ℕ) → x + a ≤ y → y + b ≤ z → x + (a + b) ≤ z
    sum x a b y z p q = omega arith

steps_keep : (s : Setting) (n : ℕ) (m : Configuration) → LaterConfiguration (forms_begun s n m) m (steps s n m)
steps_keep s zero m = unchanged m
steps_keep s (suc n) m =
    let first : ℕ = if begins m.control then 1 else 0 in
    let one : LaterConfiguration first m (next s m) = next_keeps s m.control m.frames m.state in
    let others : LaterConfiguration (forms_begun s n (next s m)) (next s m) (steps s n (next s m)) = steps_keep s n (next s m) in
    record {
      later = both_counted first (forms_begun s n (next s m)) (progress m.state.state) (progress (next s m).state.state) (progress (steps s n (next s m)).state.state)
          one.later others.later;
      fine = λ h. others.fine (one.fine h);
    }

pub law_of_printing : LawOfPrinting
law_of_printing s m n = (steps_keep s n m).later.printed

pub law_of_reading : LawOfReading
law_of_reading s m n = (steps_keep s n m).later.left

pub law_of_units : LawOfUnits
law_of_units s m n = (steps_keep s n m).later.units

pub law_of_words : LawOfWords
law_of_words s input k n asked left e =
    let first : IsFine (start s input k) = record { control = tt; frames = (tt, tt) } in
    subst FineControl e ((steps_keep s n (start s input k)).fine first).control
