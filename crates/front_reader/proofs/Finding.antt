-- Reading to the first whole datum, as the calls say it.
use Rattle.std.proofs.Common.{◌≡◌, ℕ, List as Seq, [], reverse, Ok, Err, sym, subst}
use Rattle.base.specs.declared.place.Place.{Place}
use Rattle.base.specs.declared.reason.Stop.{Stop}
use Rattle.base.specs.declared.reason.Stop.TheVariants.{Refused, NoMemory}
use Rattle.base.specs.Names.{IsTable, Extends-same}
use Rattle.front_reader.specs.declared.pending.Pending.{Pending}
use Rattle.front_reader.specs.Meanings.{number_in}
use Rattle.front_reader.specs.bridge.Machine.{LexemeState, LexemeStep, step, none}
use Rattle.front_reader.specs.bridge.Turns.{IsLater}
use Rattle.front_reader.specs.bridge.Steps.{LeadsTo, ReadTo, DatumFound, ReadingGoesOn}
use Rattle.front_reader.specs.declared.step.Turn.{Turn}
use Rattle.front_reader.proofs.Stepping.{Numbers, state}

pub later-same : (names : Seq (Seq ℕ)) → IsTable names → IsLater names names
later-same names t = record { is_table = t; extends = Extends-same names }

pub read-start : (number : Numbers) (text : Seq ℕ) (p : Place) (os : Seq Pending) → os ≡ []
    → ReadTo number text p (state text p [] (reverse os))
read-start number text p os e =
    subst (λ us. ReadTo number text p (state text p [] (reverse us))) (sym e) (none (state text p [] []))

pub stop-found : (names : Seq (Seq ℕ)) (text : Seq ℕ) (p : Place) (s : LexemeState) (stop : Stop) (os : Seq Pending)
    → ReadTo (number_in names) text p s → s.done ≡ [] → LeadsTo (step (number_in names) s) s.done (Err stop) os
    → DatumFound names text p (Err stop)
stop-found names text p s (Refused r) os a e l = (s, (l.0, (a, e, l.1)))
stop-found names text p s NoMemory os a e l = tt

-- what a step led to, where its answer is this one
pub leads-as : (x : LexemeStep) (t u : Turn) (os : Seq Pending) → t ≡ u → LeadsTo x [] (Ok t) os → LeadsTo x [] (Ok u) os
leads-as x t u os e l = subst (λ v. LeadsTo x [] (Ok v) os) e l

pub goes-as : (n : ℕ) (t u : Turn) → t ≡ u → ReadingGoesOn n t → ReadingGoesOn n u
goes-as n t u e g = subst (ReadingGoesOn n) e g
