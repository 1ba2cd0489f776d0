-- What stands for literals.
use Rattle.std.proofs.Common.{◌≡◌, ℕ, zero, suc, ◌+◌, ◌<◌, List, [], ◌∷◌, length, map, Some, refl, sym, ◌∙◌, ap, add-zero, zero-add, arith, eq-eqb}
use Rattle.std.specs.Prelude.{slice_get}
use Rattle.std.proofs.lemmas.Bool.{ne_eqb}
use Rattle.base.specs.Data.{Item}
use Rattle.lang_meaning.specs.declared.program.ProgramRows.{ProgramRows}
use Rattle.lang_meaning.specs.declared.program.LiteralRow.{LiteralRow}
use Rattle.lang_meaning.specs.declared.program.LiteralRow.TheVariants.{Datum}
use Rattle.lang_meaning.specs.Objects.{Object}
use Rattle.lang_meaning.specs.Lookup.{numbered}
use Rattle.lang_meaning.specs.InitialHeap.{Thing, literal, literal_objects, laid_out, under_key, stands_for, literal_value}
use Rattle.lang_meaning.specs.Recipes.{in_turn, literal_recipe, last_of}
use Rattle.lang_meaning.proofs.RecipeKeys.{AreOthers, first_thing, later_thing}
use Rattle.lang_meaning.proofs.RecipeSegments.{literal_thing, literal_same}
use Rattle.lang_meaning.proofs.RecipesFound.{value_in}
use Rattle.lang_meaning.proofs.RecipeShapes.{literal_laid}

abbrev pub literals_from : List (List ℕ) → List LiteralRow → ℕ → List Thing
literals_from names rows k = map (literal_thing names) (numbered rows k)

-- literals before the first of them
pub literals_behind : (names : List (List ℕ)) (rows : List LiteralRow) (i k : ℕ) → i < k → AreOthers (literal i) (literals_from names rows k)
literals_behind names [] i k h = tt
literals_behind names (r ∷ rs) i k h = (ne_eqb i k (λ e. omega arith), literals_behind names rs i (k + 1) (omega arith))

-- where a literal is laid: what stands under its key, and its value
record IsAt (names : List (List ℕ)) (rows : List LiteralRow) (k n i : ℕ) (r : LiteralRow) (at : ℕ) : Type 0 where
  stands : under_key (literal (k + i)) (laid_out (literals_from names rows k) n) n ≡ last_of (literal_objects names r at) at
  value : value_in (in_turn (literal_recipe names) rows n).1 i ≡ (literal_recipe names r at).1

literal_at : (names : List (List ℕ)) (rows : List LiteralRow) (k n i : ℕ) (r : LiteralRow) → slice_get rows i ≡ Some r
    → (at : ℕ) × IsAt names rows k n i r at
literal_at names [] k n i r h = absurd (cc)
literal_at names (s ∷ ss) k n zero r h =
    let same : s ≡ r = cc in (
      n,
      record {
        stands =
            first_thing (literal (k + 0)) (literal_thing names (s, k)) (literals_from names ss (k + 1)) n
            (ap literal (add-zero k)) (eq-eqb (k + 0) (k + 0) refl) refl (literals_behind names ss (k + 0) (k + 1) (omega arith))
            ∙ ap (λ q. last_of (literal_objects names q n) n) same;
        value = ap (λ q. (literal_recipe names q n).1) same;
      },
    )
literal_at names (s ∷ ss) k n (suc i) r h =
    let m = n + length (literal_objects names s n) in
    let there : (at : ℕ) × IsAt names ss (k + 1) m i r at = literal_at names ss (k + 1) m i r h in
    let same : k + suc i ≡ k + 1 + i = omega arith in (
      there.0,
      record {
        stands =
            later_thing (literal (k + suc i)) (literal_thing names (s, k)) (literals_from names ss (k + 1)) n (ne_eqb (k + suc i) k (λ e. omega arith)) refl
            ∙ ap (λ c. under_key (literal c) (laid_out (literals_from names ss (k + 1)) m) m) same
            ∙ there.1.stands;
        value =
            ap (λ (os : List Object). value_in (in_turn (literal_recipe names) ss (n + length os)).1 i) (sym (literal_same names s n))
            ∙ there.1.value;
      },
    )

-- the word of a datum is its literal's value
pub literal_found : (names : List (List ℕ)) (program : ProgramRows) (n i : ℕ) (d : Item) → slice_get program.literals i ≡ Some (Datum d)
    → stands_for names program (literal i) ≡ under_key (literal i) (laid_out (literals_from names program.literals 0) n) n
    → value_in (in_turn (literal_recipe names) program.literals n).1 i ≡ literal_value names program i d
literal_found names program n i d h whole =
    let there : (at : ℕ) × IsAt names program.literals 0 n i (Datum d) at = literal_at names program.literals 0 n i (Datum d) h in
    there.1.value
    ∙ literal_laid names program i d there.0
    (whole ∙ ap (λ c. under_key (literal c) (laid_out (literals_from names program.literals 0) n) n) (sym (zero-add i)) ∙ there.1.stands)
