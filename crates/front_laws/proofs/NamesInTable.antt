-- All names of an accepted program that defines no macro stand in its table. A number behind the table has one text under one later table, and another text under
-- another one, and the program is the same under both: so it has not that number.
use Rattle.std.specs.Prelude.{◌≡◌, ℕ, zero, suc, ◌+◌, ◌<◌, ◌⊎◌, List, [], ◌∷◌, length, map, Some, slice_get}
use Rattle.std.proofs.Common.{arith, ap, sym, ◌∙◌, subst, inl, inr, ⊎_elim}
use Rattle.base.specs.AllOf.{AllOf, all_map}
use Rattle.base.specs.Names.{IsTable, Extends, slice_get-behind, text_stays}
use Rattle.lang_meaning.specs.declared.program.ProgramRows.{ProgramRows}
use Rattle.front_files.specs.declared.mode.Mode.{Mode}
use Rattle.front_files.specs.Verdicts.{accepted, Accepts}
use Rattle.front_files.specs.WithoutMacros.{AcceptsWithoutMacros}
use Rattle.lang_renamed.specs.ProgramNames.{program_names}
use Rattle.lang_renamed.proofs.Names.{names_renamed}
use Rattle.front_laws.specs.SamePrograms.{SameProgram}
use Rattle.front_laws.proofs.OneVerdict.{StaysWithout, of_accepted}
use Rattle.front_laws.proofs.FreshTexts.{new_text, with_new, table_with_new, extends_with_new, new_differ, longer}

-- two programs of a text are the same
abbrev pub IsOneProgram : Type 0
IsOneProgram =
    (prelude text : List ℕ) (mode : Mode) (a b : List (List ℕ)) (p q : ProgramRows) → Accepts prelude text mode a p → AcceptsWithoutMacros prelude text mode b q →
    SameProgram a p b q

-- what a renaming leaves as it is, it leaves item by item
fixed : (r : ℕ → ℕ) (ns : List ℕ) → ns ≡ map r ns → AllOf (λ n. r n ≡ n) ns
fixed r [] e = tt
fixed r (n ∷ ns) e = let first : r n ≡ n = cc in let others : ns ≡ map r ns = cc in (first, fixed r ns others)

-- so it is with all names of a program that is the same where it is renamed
pub names_fixed : {a b : List (List ℕ)} {p : ProgramRows} (x : SameProgram a p b p) → AllOf (λ n. x.renaming n ≡ n) (program_names p)
names_fixed {p = p} x = fixed x.renaming (program_names p) (ap program_names x.is ∙ names_renamed x.renaming p)

-- a number is below another, or so much behind it
below_or_behind : (m n : ℕ) → (n < m) ⊎ ((k : ℕ) × (n ≡ m + k))
below_or_behind zero n = inr (n, omega arith)
below_or_behind (suc m) zero = inl (omega arith)
below_or_behind (suc m) (suc n) =
    ⊎_elim (λ h. inl (omega (arith, h))) (λ h. let e : n ≡ m + h.0 = h.1 in inr (h.0, omega (arith, e))) (below_or_behind m n)

all_below : (m : ℕ) (ns : List ℕ) → ((k : ℕ) → AllOf (λ n. n ≡ m + k → ⊥) ns) → AllOf (λ n. n < m) ns
all_below m [] h = tt
all_below m (n ∷ ns) h = (⊎_elim (λ b. b) (λ b. absurd ((h b.0).0 b.1)) (below_or_behind m n), all_below m ns (λ k. (h k).1))

module _ (stays : StaysWithout) (one : IsOneProgram) (prelude text : List ℕ) (mode : Mode) (p : ProgramRows) where
  later : (a b : List (List ℕ)) → Extends a b → IsTable b → AcceptsWithoutMacros prelude text mode a p → AcceptsWithoutMacros prelude text mode b p
  later a b e t g =
      let stays_there = stays a b prelude text mode (accepted p) e (of_accepted prelude text mode a p g) in
      record { accepts = record { table = t; verdict = stays_there.verdict }; none = stays_there.none }

  -- it has not the next number
  not_next : (a : List (List ℕ)) → AcceptsWithoutMacros prelude text mode a p → AllOf (λ n. n ≡ length a → ⊥) (program_names p)
  not_next a g = all_map (λ n. x.renaming n ≡ n) (λ n. n ≡ length a → ⊥) differs (program_names p) (names_fixed x)
    where
      x : SameProgram (with_new a 0) p (with_new a 1) p
      x =
          one prelude text mode (with_new a 0) (with_new a 1) p p (later a (with_new a 0) (extends_with_new a 0) (table_with_new a 0 g.accepts.table) g).accepts
          (later a (with_new a 1) (extends_with_new a 1) (table_with_new a 1 g.accepts.table) g)

      here : slice_get x.later_a (length a) ≡ Some (new_text a 0)
      here = text_stays (with_new a 0) x.later_a (length a) (new_text a 0) x.extends_a (slice_get-behind a (new_text a 0))

      there : slice_get x.later_b (length a) ≡ Some (new_text a 1)
      there = text_stays (with_new a 1) x.later_b (length a) (new_text a 1) x.extends_b (slice_get-behind a (new_text a 1))

      differs : (n : ℕ) → x.renaming n ≡ n → n ≡ length a → ⊥
      differs n e i =
          let stands : x.renaming (length a) ≡ length a = subst (λ m. x.renaming m ≡ m) i e in
          let two : Some (new_text a 0) ≡ Some (new_text a 1) = sym here ∙ ap (slice_get x.later_a) (sym stands) ∙ x.renames.texts (length a) ∙ there in
          new_differ a (cc)

  pub names_in_table : (a : List (List ℕ)) → AcceptsWithoutMacros prelude text mode a p → AllOf (λ n. n < length a) (program_names p)
  names_in_table a g = all_below (length a) (program_names p) not_behind
    where
      not_behind : (k : ℕ) → AllOf (λ n. n ≡ length a + k → ⊥) (program_names p)
      not_behind k =
          let t = longer a g.accepts.table k in
          subst (λ m. AllOf (λ n. n ≡ m → ⊥) (program_names p)) t.long (not_next t.later (later a t.later t.extends t.table g))
