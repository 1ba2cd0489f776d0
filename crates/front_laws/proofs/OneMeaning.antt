-- Two programs of a text mean the same.
use Rattle.std.specs.Prelude.{◌≡◌, ℕ, ◌<◌, List, length}
use Rattle.std.proofs.Common.{ap, sym, ◌∙◌}
use Rattle.base.specs.AllOf.{AllOf, all_map}
use Rattle.lang_meaning.specs.declared.program.ProgramRows.{ProgramRows}
use Rattle.lang_meaning.specs.Meaning.{meaning}
use Rattle.lang_renamed.specs.Renaming.{KeepsTexts, program_by}
use Rattle.lang_renamed.specs.ProgramNames.{program_names}
use Rattle.lang_renamed.specs.Laws.{LawOfMeaning}
use Rattle.lang_renamed.proofs.Starting.{text_by}
use Rattle.lang_renamed.proofs.Names.{programs_agree}
use Rattle.front_expansions.proofs.Later.{moves, stays_there, keeps, keeps_texts}
use Rattle.front_expansions.proofs.OneRun.{all_two}
use Rattle.front_laws.specs.SamePrograms.{SameProgram}
use Rattle.front_laws.specs.SameMeanings.{MeansTheSame}
use Rattle.front_laws.proofs.NamesInTable.{names_fixed}

abbrev InTable : List (List ℕ) → ProgramRows → Type 0
InTable a p = AllOf (λ n. n < length a) (program_names p)

module _ (law : LawOfMeaning) (a : List (List ℕ)) (p : ProgramRows) (b : List (List ℕ)) (q : ProgramRows) (x : SameProgram a p b q) (itself : SameProgram a p a p) (in_a : InTable a p) (in_b : InTable b q) where
  abbrev from_a : ℕ → ℕ
  from_a = moves a x.later_a x.extends_a

  abbrev from_b : ℕ → ℕ
  from_b n = x.renaming (moves b x.later_b x.extends_b n)

  -- the names of p stay
  p_stays : program_by from_a p ≡ p
  p_stays =
      programs_agree from_a itself.renaming p
      (all_two (λ n. n < length a) (λ n. itself.renaming n ≡ n) (λ n. from_a n ≡ itself.renaming n) (λ n h i. stays_there a x.later_a x.extends_a n h ∙ sym i) (program_names p) in_a (names_fixed itself))
      ∙ sym itself.is

  q_renamed : program_by from_b q ≡ program_by x.renaming q
  q_renamed =
      programs_agree from_b x.renaming q
      (all_map (λ n. n < length b) (λ n. from_b n ≡ x.renaming n) (λ n h. ap x.renaming (stays_there b x.later_b x.extends_b n h)) (program_names q) in_b)

  a_keeps : KeepsTexts from_a a x.later_a
  a_keeps = keeps_texts a x.later_a x.extends_a

  b_keeps : KeepsTexts from_b b x.later_a
  b_keeps n = text_by b x.later_a (from_b n) n (x.renames.texts (moves b x.later_b x.extends_b n) ∙ keeps b x.later_b x.extends_b n)

  pub means_the_same : MeansTheSame a p b q
  means_the_same = record {
    numbers_a = from_a;
    numbers_b = from_b;
    same = λ input levels limit.
        sym (law from_a a x.later_a p input levels limit a_keeps)
        ∙ ap (λ z. meaning x.later_a z input levels limit) (p_stays ∙ x.is ∙ sym q_renamed)
        ∙ law from_b b x.later_a q input levels limit b_keeps;
  }
