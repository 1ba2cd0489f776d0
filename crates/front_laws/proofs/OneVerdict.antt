-- Two verdicts on a file, each under a table of its own, are one, names taken by their texts.
use Rattle.std.specs.Prelude.{◌≡◌, ℕ, List, []}
use Rattle.std.proofs.Common.{sym}
use Rattle.base.specs.declared.reason.Refusal.{Refusal}
use Rattle.base.specs.Names.{IsTable, Extends}
use Rattle.lang_meaning.specs.declared.program.ProgramRows.{ProgramRows}
use Rattle.front_files.specs.declared.mode.Mode.{Mode}
use Rattle.front_files.specs.declared.mode.Mode.TheVariants.{Run}
use Rattle.front_files.specs.Verdicts.{FileVerdict, accepted, refused, Verdict, IsOfFile, Accepts, Refuses}
use Rattle.front_files.specs.WithoutMacros.{VerdictWithoutMacros, AcceptsWithoutMacros, RefusesWithoutMacros}
use Rattle.front_laws.specs.Places.{InText}
use Rattle.lang_renamed.specs.Renaming.{program_by}
use Rattle.front_laws.specs.Renaming.{file_verdict_by}
use Rattle.front_laws.specs.SamePrograms.{SameProgram}
use Rattle.front_laws.proofs.Files.{refusal_in}
use Rattle.front_laws.proofs.RenamedFiles.{file_by}
use Rattle.front_laws.proofs.Joined.{with_texts, extends_with, table_with, renumbered, renames_joined}

-- a verdict stays under a later table, and so does one on the way to which no macro is defined; under one table there is one
abbrev pub Stays : Type 0
Stays = (old new : List (List ℕ)) (prelude text : List ℕ) (mode : Mode) (v : FileVerdict) → Extends old new → Verdict old prelude text mode v → Verdict new prelude text mode v

abbrev pub StaysWithout : Type 0
StaysWithout =
    (old new : List (List ℕ)) (prelude text : List ℕ) (mode : Mode) (v : FileVerdict) → Extends old new → VerdictWithoutMacros old prelude text mode v →
    VerdictWithoutMacros new prelude text mode v

abbrev pub IsOne : Type 0
IsOne =
    (names : List (List ℕ)) (prelude text : List ℕ) (mode : Mode) (v w : FileVerdict) → IsTable names → VerdictWithoutMacros names prelude text mode v →
    Verdict names prelude text mode w → v ≡ w

-- a prelude that is accepted, and defines no macro, refuses no file
abbrev pub PreludeStands : Type 0
PreludeStands =
    (names : List (List ℕ)) (prelude text : List ℕ) (mode : Mode) (program : ProgramRows) (x : Refusal) → IsTable names →
    VerdictWithoutMacros names prelude [] Run (accepted program) → Verdict names prelude text mode (refused x) → IsOfFile names text mode x

-- what is said to an accepted text, and to a refused one
pub of_accepted : (prelude text : List ℕ) (mode : Mode) (names : List (List ℕ)) (program : ProgramRows) (g : AcceptsWithoutMacros prelude text mode names program) →
    VerdictWithoutMacros names prelude text mode (accepted program)
of_accepted prelude text mode names program g = record { verdict = g.accepts.verdict; none = g.none }

of_refused : (prelude text : List ℕ) (mode : Mode) (x : Refusal) (g : RefusesWithoutMacros prelude text mode x) → VerdictWithoutMacros g.refuses.names prelude text mode (refused x)
of_refused prelude text mode x g = record { verdict = g.refuses.verdict; none = g.none }

abbrev numbers : (a b : List (List ℕ)) → ℕ → ℕ
numbers a b = renumbered (with_texts b a) (with_texts a b)

module _ (stays : Stays) (without : StaysWithout) (a b : List (List ℕ)) (x : IsTable a) (y : IsTable b) (prelude : List ℕ) where
  -- under the table a with the texts of b
  from_a : (text : List ℕ) (mode : Mode) (v : FileVerdict) → Verdict a prelude text mode v → Verdict (with_texts a b) prelude text mode v
  from_a text mode v h = stays a (with_texts a b) prelude text mode v (extends_with a b) h

  from_b : (text : List ℕ) (mode : Mode) (v : FileVerdict) → VerdictWithoutMacros b prelude text mode v → VerdictWithoutMacros (with_texts a b) prelude text mode (file_verdict_by (numbers a b) v)
  from_b text mode v h =
      file_by (numbers a b) (with_texts b a) (with_texts a b) (renames_joined a b x y) (table_with a b x y) prelude text mode v
      (without b (with_texts b a) prelude text mode v (extends_with b a) h)

  same_verdict : IsOne → (text : List ℕ) (mode : Mode) (v w : FileVerdict) → Verdict a prelude text mode v → VerdictWithoutMacros b prelude text mode w → v ≡ file_verdict_by (numbers a b) w
  same_verdict one text mode v w g h =
      sym (one (with_texts a b) prelude text mode (file_verdict_by (numbers a b) w) v (table_with a b x y) (from_b text mode w h) (from_a text mode v g))

  pub prelude_in : PreludeStands → (text : List ℕ) (mode : Mode) (program : ProgramRows) (z : Refusal) → VerdictWithoutMacros b prelude [] Run (accepted program) →
      Verdict a prelude text mode (refused z) → InText z.place
  prelude_in stands text mode program z g h =
      refusal_in (with_texts a b) text mode z
      (stands (with_texts a b) prelude text mode (program_by (numbers a b) program) z (table_with a b x y) (from_b [] Run (accepted program) g) (from_a text mode (refused z) h))

-- so no text that defines no macro is both accepted and refused
pub never_both : Stays → StaysWithout → IsOne → (prelude text : List ℕ) (mode : Mode) (names : List (List ℕ)) (program : ProgramRows) (x : Refusal) →
    AcceptsWithoutMacros prelude text mode names program → Refuses prelude text mode x → ⊥
never_both stays without one prelude text mode names program x g h =
    let same : refused x ≡ accepted (program_by (numbers h.names names) program) =
    same_verdict stays without h.names names h.table g.accepts.table prelude one text mode (refused x) (accepted program) h.verdict (of_accepted prelude text mode names program g) in
    absurd (cc)

-- two refusals are one
pub one_refusal : Stays → StaysWithout → IsOne → (prelude text : List ℕ) (mode : Mode) (x y : Refusal) → RefusesWithoutMacros prelude text mode x → Refuses prelude text mode y → x ≡ y
one_refusal stays without one prelude text mode x y g h =
    let same : refused y ≡ refused x =
    same_verdict stays without h.names g.refuses.names h.table g.refuses.table prelude one text mode (refused y) (refused x) h.verdict (of_refused prelude text mode x g) in cc

-- and two programs are the same
pub one_program : Stays → StaysWithout → IsOne → (prelude text : List ℕ) (mode : Mode) (a b : List (List ℕ)) (p q : ProgramRows) → Accepts prelude text mode a p →
    AcceptsWithoutMacros prelude text mode b q → SameProgram a p b q
one_program stays without one prelude text mode a b p q g h =
    let same : accepted p ≡ accepted (program_by (numbers a b) q) =
    same_verdict stays without a b g.table h.accepts.table prelude one text mode (accepted p) (accepted q) g.verdict (of_accepted prelude text mode b q h) in
    record {
      later_a = with_texts a b;
      later_b = with_texts b a;
      extends_a = extends_with a b;
      extends_b = extends_with b a;
      renaming = numbers a b;
      renames = renames_joined a b g.table h.accepts.table;
      is = cc;
    }

-- what refuses a file behind an accepted prelude that defines no macro stands in its text
pub behind_accepted : Stays → StaysWithout → PreludeStands → (prelude text : List ℕ) (mode : Mode) (names : List (List ℕ)) (program : ProgramRows) (x : Refusal) →
    AcceptsWithoutMacros prelude [] Run names program → Refuses prelude text mode x → InText x.place
behind_accepted stays without stands prelude text mode names program x g h =
    prelude_in stays without h.names names h.table g.accepts.table prelude stands text mode program x (of_accepted prelude [] Run names program g) h.verdict
