-- Two runs of a program that have ended are one run, with whatever levels and under whatever tables of names, where one
-- table begins with each and all names of the program are in each.
use Rattle.std.specs.Prelude.{◌≡◌, ℕ, ◌+◌, ◌<◌, ◌≤◌, List, [], ◌∷◌, length}
use Rattle.std.proofs.Common.{arith, ap, sym, ◌∙◌}
use Rattle.base.specs.AllOf.{AllOf}
use Rattle.base.specs.Names.{Extends}
use Rattle.lang_meaning.specs.declared.program.ProgramRows.{ProgramRows}
use Rattle.lang_meaning.specs.Laws.{LawOfLevels}
use Rattle.lang_meaning.specs.Meaning.{Meant, meaning, ended_more}
use Rattle.lang_meaning.specs.State.{Limit}
use Rattle.lang_renamed.specs.Laws.{LawOfMeaning}
use Rattle.lang_renamed.specs.ProgramNames.{program_names}
use Rattle.lang_renamed.specs.Renaming.{program_by}
use Rattle.lang_renamed.specs.RenamedRuns.{meant_by}
use Rattle.lang_renamed.proofs.Names.{programs_agree}
use Rattle.front_profile.specs.ProgramNames.{NamesIn}
use Rattle.front_expansions.proofs.Later.{moves, stays_there, keeps_texts}
use Rattle.front_expansions.proofs.NamesStand.{names_stand}

pub all_two :
    {X : Type 0} (P Q R : X → Type 0) → ((x : X) → P x → Q x → R x) → (xs : List X) → AllOf P xs → AllOf Q xs
    → AllOf R xs
all_two P Q R f [] g h = tt
all_two P Q R f (x ∷ xs) g h = (f x g.0 h.0, all_two P Q R f xs g.1 h.1)

-- a table with which all names begin, and in which those of the program are
pub record IsFront (names : List (List ℕ)) (program : ProgramRows) (table : List (List ℕ)) : Type 0 where
  pub begins : Extends table names
  pub named : NamesIn (length table) program

module _ (names : List (List ℕ)) (program : ProgramRows) (input : List ℕ) (limit : Limit) where
  -- the run under the table, renamed to one under all names
  abbrev pub renamed_run : (a : List (List ℕ)) → IsFront names program a → ℕ → Meant
  renamed_run a x k = meant_by (moves a names x.begins) (meaning a program input k limit)

  module _ (a b : List (List ℕ)) (x : IsFront names program a) (y : IsFront names program b) where
    abbrev from_a : ℕ → ℕ
    from_a = moves a names x.begins

    abbrev from_b : ℕ → ℕ
    from_b = moves b names y.begins

    -- no name of the program moves
    same_program : program_by from_a program ≡ program_by from_b program
    same_program =
        programs_agree from_a from_b program
        (all_two (λ n. n < length a) (λ n. n < length b) (λ n. from_a n ≡ from_b n)
        (λ n g h. stays_there a names x.begins n g ∙ sym (stays_there b names y.begins n h)) (program_names program)
        (names_stand (length a) program x.named) (names_stand (length b) program y.named))

    same_meaning : LawOfMeaning → (k : ℕ) → renamed_run a x k ≡ renamed_run b y k
    same_meaning law k =
        sym (law from_a a names program input k limit (keeps_texts a names x.begins))
        ∙ ap (λ p. meaning names p input k limit) same_program
        ∙ law from_b b names program input k limit (keeps_texts b names y.begins)

  -- what has ended is the same with more levels
  abbrev Ended : List (List ℕ) → ℕ → Type 0
  Ended table k = (meaning table program input k limit).end ≡ ended_more → ⊥

  with_more :
      LawOfLevels → (a : List (List ℕ)) (x : IsFront names program a) (j k : ℕ) → j ≤ k → Ended a j
      → renamed_run a x k ≡ renamed_run a x j
  with_more levels a x j k more h =
      ap (meant_by (moves a names x.begins)) ((levels a program input limit j k more).same h)

  pub one_run :
      LawOfMeaning → LawOfLevels → (a b : List (List ℕ)) (x : IsFront names program a) (y : IsFront names program b)
      (j k : ℕ) → Ended a j → Ended b k → renamed_run a x j ≡ renamed_run b y k
  one_run law levels a b x y j k g h =
      sym (with_more levels a x j (j + k) (omega arith) g)
      ∙ same_meaning a b x y law (j + k)
      ∙ with_more levels b y k (j + k) (omega arith) h
