-- What the turns make: maps of arguments, tables, and lists of them.
use Rattle.std.proofs.Common.{◌≡◌, ℕ, zero, suc, ◌+◌, ◌≤◌, List, [], ◌∷◌, ◌++◌, length, map, drop, Some, slice_get, refl, ap, subst, ◌∙◌, ⊎_elim, arith, append_assoc}
use Rattle.std.specs.List.{sum_by}
use Rattle.std.proofs.lemmas.List.Sums.{sum_by-cons}
use Rattle.base.specs.Names.{slice_get-push}
use Rattle.base.specs.model.DataRest.{rest_at}
use Rattle.lang_meaning.specs.declared.program.ProgramRows.{ProgramRows}
use Rattle.lang_meaning.specs.declared.program.GenericRow.{GenericRow}
use Rattle.lang_dispatch.specs.declared.groups.ArgumentGroups.{ArgumentGroups}
use Rattle.lang_meaning.specs.Cells.{argument_classes, group_of}
use Rattle.lang_dispatch.specs.GroupNumbers.{AreGroups, NumbersGroups}
use Rattle.lang_dispatch.specs.declared.table.ArgumentMap.{ArgumentMap}
use Rattle.lang_dispatch.specs.declared.table.Table.{Table}
use Rattle.lang_dispatch.specs.Tables.{map_of, IsMapOf, IsTableOf}

pub map_from_groups : (program : ProgramRows) (g : GenericRow) (at : ℕ) (found : ArgumentGroups) → AreGroups program g at found
    → IsMapOf program g at (map_of (length found.firsts) found.numbers)
map_from_groups program g at found x = record {
  numbers = found.numbers;
  count = x.count;
  grouped = (let P : List ℕ → Type 0 = λ fs. NumbersGroups (group_of program (argument_classes g at)) fs found.numbers in subst P x.firsts x.numbers);
  kept = ap (λ fs. map_of (length fs) found.numbers) x.firsts;
}

-- one map more
pub maps_more : (program : ProgramRows) (g : GenericRow) (maps next : List ArgumentMap) (at : ℕ) (a : ArgumentMap)
    → ((i : ℕ) (b : ArgumentMap) → slice_get maps i ≡ Some b → IsMapOf program g i b) → length maps ≡ at → IsMapOf program g at a
    → next ≡ maps ++ a ∷ [] → (i : ℕ) (b : ArgumentMap) → slice_get next i ≡ Some b → IsMapOf program g i b
maps_more program g maps next at a x count one e i b h =
    let pushed : slice_get (maps ++ a ∷ []) i ≡ Some b = rw e at h in
    ⊎_elim
    (λ k. x i b k)
    (λ (p : (i ≡ length maps) × (a ≡ b)). let place : i ≡ at = p.0 ∙ count in rw (place, ← p.1) one)
    (slice_get-push maps a i b pushed)

-- one table more
pub tables_more : (program : ProgramRows) (generics : List GenericRow) (tables next : List Table) (at : ℕ) (g : GenericRow) (t : Table)
    → ((i : ℕ) (h : GenericRow) (s : Table) → slice_get generics i ≡ Some h → slice_get tables i ≡ Some s → IsTableOf program h s)
    → length tables ≡ at → slice_get generics at ≡ Some g → IsTableOf program g t → next ≡ tables ++ t ∷ []
    → (i : ℕ) (h : GenericRow) (s : Table) → slice_get generics i ≡ Some h → slice_get next i ≡ Some s → IsTableOf program h s
tables_more program generics tables next at g t x count here one e i h s row there =
    let pushed : slice_get (tables ++ t ∷ []) i ≡ Some s = rw e at there in
    ⊎_elim
    (λ k. x i h s row k)
    (λ (p : (i ≡ length tables) × (t ≡ s)).
    let place : i ≡ at = p.0 ∙ count in
    let row_here : slice_get generics at ≡ Some h = rw place at row in
    let same : g ≡ h = cc in
    rw (← same, ← p.1) one)
    (slice_get-push tables t i s pushed)

-- one of a sum is at most the sum
pub one_of_sum : {X : Type 0} (f : X → ℕ) (xs : List X) (i : ℕ) (x : X) → slice_get xs i ≡ Some x → f x ≤ sum_by f xs
one_of_sum f [] i x h = absurd (cc)
one_of_sum f (y ∷ ys) zero x h = let same : y ≡ x = cc in let e : f y ≡ f x = ap f same in omega (arith, sum_by-cons f y ys)
one_of_sum f (y ∷ ys) (suc i) x h = omega (arith, sum_by-cons f y ys, one_of_sum f ys i x h)

pub map-more : {X Y : Type 0} (f : X → Y) (xs : List X) (x : X) → map f (xs ++ x ∷ []) ≡ map f xs ++ f x ∷ []
map-more f [] x = refl
map-more f (y ∷ ys) x = ap (λ l. f y ∷ l) (map-more f ys x)

-- one more image
pub map_turn : {X Y : Type 0} (f : X → Y) (done : List Y) (xs : List X) (i : ℕ) (x : X) → slice_get xs i ≡ Some x
    → (done ++ f x ∷ []) ++ map f (drop (i + 1) xs) ≡ done ++ map f (drop i xs)
map_turn f done xs i x h = rw (rest_at xs i x h) (append_assoc done (f x ∷ []) (map f (drop (i + 1) xs)))
