-- The records of lines and those that code knows are the same, also of activations at each stage of a run.
use Rattle.std.proofs.Common.{◌≡◌, ℕ, List, [], ◌∷◌, map, Option, Some, None, refl, sym, ap, ◌∙◌}
use Rattle.mid_code.specs.declared.program.MidProgram.{MidProgram}
use Rattle.mid_lines.specs.Flattened.{program_lines}
use Rattle.mid_lines.specs.LineMeaning.{Standing, Activation, Caller, Stage, running, entering, ended}
use Rattle.mid_lines.specs.LineLaw.{line_run}
use Rattle.mid_lines.specs.StaticRecords.{StaticRecord, of_landing, only_lent, records_at, static_in, static_of, ActivationHas, CallersHave, StageHas}
use Rattle.mid_lines.proofs.StandingRecords.{law_of_standing_records}
use Rattle.mid_lines.proofs.TreeRecords.{law_of_records}
use Rattle.back_places.specs.Places as places
use Rattle.back_places.specs.Relation as known
use Rattle.back_places.specs.Relation.{statics}
use Rattle.back_trivial.specs.KnownRecords.{known_record, known_records, line_record, tree_records, RecordsAreKept}
use Rattle.back_trivial.specs.StandingRecords.{ActivationIsKnown, CallersAreKnown, StageIsKnown, LawOfKnownStages}

there_again : (r : StaticRecord) → line_record (known_record r) ≡ r
there_again (of_landing words landing) = refl
there_again only_lent = refl

back_again : (r : places.StaticRecord) → known_record (line_record r) ≡ r
back_again (places.with_landing words landing) = refl
back_again places.only_lent = refl

same_record : (landing : Option ℕ) (words : ℕ) → known_record (static_in landing words) ≡ known.static_of words landing
same_record None words = refl
same_record (Some landing) words = refl

same_standing : (records : List Standing) → known_records (map static_of records) ≡ statics records
same_standing [] = refl
same_standing (s ∷ records) = cc (same_record s.landing s.words, same_standing records)

pub records_are_kept : RecordsAreKept
records_are_kept = record { there = there_again; back = back_again; standing = same_standing }

module _ (program : MidProgram) where
  activation_known : (a : Activation) (line : ℕ) → ActivationHas (records_at program) a line → ActivationIsKnown (tree_records program) a line
  activation_known a line h = ap known_records (sym h) ∙ same_standing a.standing

  callers_known : (callers : List Caller) → CallersHave (records_at program) callers → CallersAreKnown (tree_records program) callers
  callers_known [] h = tt
  callers_known (c ∷ callers) h = (activation_known c.activation c.line h.0, callers_known callers h.1)

  stage_known : (s : Stage) → StageHas (records_at program) s → StageIsKnown (tree_records program) s
  stage_known (running a line rs callers z) h = (activation_known a line h.0, callers_known callers h.1)
  stage_known (entering number arguments callers z) h = callers_known callers h
  stage_known (ended e z) h = tt

pub law_of_known_stages : LawOfKnownStages
law_of_known_stages program entry arguments z steps =
    stage_known program (line_run program entry arguments z steps)
    (law_of_standing_records (program_lines program) (records_at program) (law_of_records program) entry arguments z steps)
