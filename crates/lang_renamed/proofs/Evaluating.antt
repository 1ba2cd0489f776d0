-- What is evaluated ends the same where it is renamed: all that an evaluation tells of a meaning is the same.
use Rattle.std.specs.Prelude.{◌≡◌, ◌<◌, ℕ, List, Option}
use Rattle.std.proofs.Common.{ap, sym, subst, ◌∙◌}
use Rattle.base.specs.Given.{WasGiven}
use Rattle.lang_meaning.specs.declared.evaluation.EvaluationEnd.{EvaluationEnd}
use Rattle.lang_meaning.specs.declared.evaluation.EvaluationEnd.TheVariants as endings
use Rattle.lang_meaning.specs.Prefixes.{IsPrefix, IsLastOf}
use Rattle.lang_meaning.specs.State.{words}
use Rattle.lang_meaning.specs.Meaning.{Meant, ending_of}
use Rattle.lang_meaning.specs.Evaluation.{Evaluation, meaning_with, end_for, Taken, Begins}
use Rattle.lang_meaning.specs.Evaluates.{HasEnded, IsCutOff, most_forms, IsSpent, ReadsOn, EndsSo}
use Rattle.lang_renamed.specs.SameRuns.{DoesTheSame}
use Rattle.lang_renamed.specs.RenamedRuns.{meant_by, evaluation_by}
use Rattle.lang_renamed.specs.Laws.{LawOfEvaluations, LawOfSameRuns, LawOfRenamedRuns}
use Rattle.lang_renamed.proofs.Stores.{ending_by}
use Rattle.lang_renamed.proofs.Levels.{law_of_meaning}

-- renaming hides nothing of what a program does
pub renamed_runs : LawOfRenamedRuns
renamed_runs r s m n e = record {
  ending =
      sym (ending_by r m.end m.store) ∙ ap (λ (x : Meant). ending_of x.end x.store) e ∙ ending_by s n.end n.store;
  printed = ap (λ (x : Meant). x.printed) e;
  left = ap (λ (x : Meant). x.left) e;
  units = ap (λ (x : Meant). x.units) e;
  peak = ap (λ (x : Meant). x.peak) e;
}

module _ (e f : Evaluation) (input : List ℕ) (same : DoesTheSame (meaning_with e input) (meaning_with f input)) (given given' : Option (List ℕ)) where
  has_ended : (end : EvaluationEnd) → HasEnded e input given given' end → HasEnded f input given given' end
  has_ended end x = record { ends = sym (ap end_for same.ending) ∙ x.ends; printed = subst (λ bytes. WasGiven given bytes given') same.printed x.printed }

  is_cut_off : IsCutOff e input given given' → IsCutOff f input given given'
  is_cut_off x = record { front = x.front; prefix = subst (IsPrefix x.front) same.printed x.prefix; printed = x.printed }

  is_spent : IsSpent e input given given' → IsSpent f input given given'
  is_spent x = record { many = subst (λ n. most_forms < n) same.units x.many; cut_off = is_cut_off x.cut_off }

  reads_on : (t : Taken) (b : Begins t input) → ReadsOn e t input b given given' → ReadsOn f t input b given given'
  reads_on t b x = record { not_all = x.not_all; takes = subst (λ left. IsLastOf left b.rest) same.left x.takes; cut_off = is_cut_off x.cut_off }

  ends_so : (end : EvaluationEnd) (t : Taken) (b : Begins t input) → EndsSo end e t input b given given' → EndsSo end f t input b given given'
  ends_so endings.Value t b x = has_ended endings.Value x
  ends_so (endings.Unhandled class site) t b x = has_ended (endings.Unhandled class site) x
  ends_so (endings.Full asked left) t b x = (x.0, has_ended (endings.Full asked left) x.1)
  ends_so endings.More t b x = has_ended endings.More x
  ends_so endings.Spent t b x = is_spent x
  ends_so endings.ReadFault t b x = reads_on t b x
  ends_so endings.WriteFault t b x = is_cut_off x

pub law_of_same_runs : LawOfSameRuns
law_of_same_runs e f left left' given given' end same x = record {
  taken = x.taken;
  was_taken = x.was_taken;
  ends = λ input b. ends_so e f input (same input) given given' end x.taken b (x.ends input b);
}

pub law_of_evaluations : LawOfEvaluations
law_of_evaluations r new e left left' given given' end h x =
    law_of_same_runs e (evaluation_by r new e) left left' given given' end
    (λ input. renamed_by input (law_of_meaning r e.names new e.program input e.levels (words e.words) h)) x
  where
    renamed_by : (input : List ℕ) → meaning_with (evaluation_by r new e) input ≡ meant_by r (meaning_with e input) → DoesTheSame (meaning_with e input) (meaning_with (evaluation_by r new e) input)
    renamed_by input same = record {
      ending = sym (ap (λ (m : Meant). ending_of m.end m.store) same ∙ ending_by r (meaning_with e input).end (meaning_with e input).store);
      printed = sym (ap (λ (m : Meant). m.printed) same);
      left = sym (ap (λ (m : Meant). m.left) same);
      units = sym (ap (λ (m : Meant). m.units) same);
      peak = sym (ap (λ (m : Meant). m.peak) same);
    }
