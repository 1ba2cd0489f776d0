-- Before a run begins nothing was read, and nothing written.
use Rattle.std.proofs.Common.{◌≡◌, ℕ, false, List, [], Option, Some, None, refl, sym, subst}
use Rattle.std.proofs.lemmas.Bool.{false≢true}
use Rattle.std.proofs.lemmas.List.{append-nil}
use Rattle.base.specs.Given.{WasGiven}
use Rattle.eval_machine.specs.RunLaws.{printed_at}
use Rattle.eval_run.specs.declared.stop.Stop.{Stop}
use Rattle.eval_run.specs.declared.stop.Stop.TheVariants as stop
use Rattle.lang_meaning.specs.Evaluation.{Evaluation, meaning_with, Taken, Begins, WasTaken}
use Rattle.lang_meaning.specs.Evaluates.{BreaksOff}
use Rattle.eval_run.specs.Moments.{configuration_after}
use Rattle.eval_run.specs.UnderWay.{HasBroken, StopsSo, StopTells}

-- nothing was read, and nothing written
abbrev pub nothing : Taken
nothing = record { bytes = []; all = false }

pub none_taken : (left : Option (List ℕ)) → WasTaken left nothing left
none_taken None = tt
none_taken (Some input) =
    let b : Begins nothing input = record { rest = input; joined = refl; ends = λ h. absurd (false≢true h) } in
    (b, refl)

pub none_given : (given : Option (List ℕ)) → WasGiven given [] given
none_given None = tt
none_given (Some before) = (before, refl, sym (append-nil before))

-- so a run that stops before it begins broke off there
pub stopped_before : (e : Evaluation) (left given : Option (List ℕ)) → HasBroken e left left given given
stopped_before e left given = record {
  taken = nothing;
  was_taken = none_taken left;
  cut_off = λ input b. record {
    count = 0;
    front = [];
    prefix = record { rest = printed_at (configuration_after e input 0); is = refl };
    printed = none_given given;
  };
}

pub stops_before : (s : Stop) (e : Evaluation) (left given : Option (List ℕ)) → s ≡ stop.NoMemory → StopsSo s e left left given given
stops_before s e left given h = subst (λ x. StopsSo x e left left given given) (sym h) (stopped_before e left given)

pub tells_nothing : (s : Stop) (SourceRises SinkRises : Type 0) → s ≡ stop.NoMemory → StopTells s SourceRises SinkRises
tells_nothing s SourceRises SinkRises h = subst (λ x. StopTells x SourceRises SinkRises) (sym h) tt

pub broken_before : (e : Evaluation) (left given : Option (List ℕ)) → BreaksOff e left left given given
broken_before e left given = record {
  taken = nothing;
  was_taken = none_taken left;
  cut_off = λ input b. record {
    front = [];
    prefix = record { rest = (meaning_with e input).printed; is = refl };
    printed = none_given given;
  };
}
