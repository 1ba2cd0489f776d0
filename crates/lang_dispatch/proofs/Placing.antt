-- The number of a tuple of groups, argument by argument.
use Rattle.std.proofs.Common.{◌≡◌, ℕ, zero, suc, ◌+◌, ◌*◌, ◌==◌, ◌<◌, ◌≤◌, ◌⊎◌, min, Bool, true, false, List, [], ◌∷◌, length, map, drop, Option, Some, slice_get, slice_index_or, refl, sym, ap, subst, ◌∙◌, arith, inl, inr, ⊎_elim}
use Rattle.std.specs.List.{range_with_len}
use Rattle.std.proofs.lemmas.Option.{slice_get-map, slice_get_within, get_or_from_slice_get}
use Rattle.std.specs.Option.{option_map}
use Rattle.std.proofs.lemmas.List.{drop_all, length-map}
use Rattle.lang_meaning.specs.declared.program.ProgramRows.{ProgramRows}
use Rattle.lang_meaning.specs.declared.program.GenericRow.{GenericRow}
use Rattle.lang_meaning.specs.Objects.{Chain}
use Rattle.lang_meaning.specs.Classes.{chain}
use Rattle.lang_meaning.specs.Cells.{argument_classes, group_of, groups}
use Rattle.base.specs.model.DataRest.{rest_at}
use Rattle.lang_dispatch.proofs.TuplePlaces.{length-tuples, tuple_at}
use Rattle.lang_dispatch.specs.declared.table.ArgumentMap.{ArgumentMap}
use Rattle.lang_dispatch.specs.declared.table.ArgumentMap.TheVariants.{Whole, Mapped}
use Rattle.lang_dispatch.specs.declared.table.Table.{Table}
use Rattle.lang_dispatch.specs.declared.chain.Chain.{Chain as Kept}
use Rattle.lang_dispatch.specs.Alike.{AreAlike, columns_from}
use Rattle.lang_dispatch.specs.Chains.{maybe_seen}
use Rattle.lang_dispatch.specs.Tables.{count_in, number_in, IsMapOf, tuples_from, tuples_of, IsPlaceOf, IsTableOf}
use Rattle.lang_dispatch.proofs.Alike.{chain_alike}

number_there : (xs : List ℕ) (i : ℕ) → i < length xs → (x : ℕ) × (slice_get xs i ≡ Some x)
number_there [] i h = absurd (omega arith)
number_there (x ∷ xs) zero h = (x, refl)
number_there (x ∷ xs) (suc i) h = number_there xs i (omega arith)

-- what a map says of a class: the number of its group
pub record HasGroup (program : ProgramRows) (g : GenericRow) (at : ℕ) (a : ArgumentMap) (c : ℕ) : Type 0 where
  pub first : ℕ
  pub there : slice_get (groups program g at) (number_in a c) ≡ Some first
  pub same : group_of program (argument_classes g at) first ≡ group_of program (argument_classes g at) c
  pub count : count_in a ≡ length (groups program g at)

pub group_in_map : (program : ProgramRows) (g : GenericRow) (at : ℕ) (a : ArgumentMap) (c : ℕ) → IsMapOf program g at a → c < length program.classes
    → HasGroup program g at a c
group_in_map program g at a c x h =
    let k : (k : ℕ) × (slice_get x.numbers c ≡ Some k) = number_there x.numbers c (omega (arith, x.count)) in
    let r : (r : ℕ) × (slice_get (groups program g at) k.0 ≡ Some r)
    × (group_of program (argument_classes g at) r ≡ group_of program (argument_classes g at) c) = x.grouped.numbered c k.0 k.1 in
    let below : k.0 < length (groups program g at) = slice_get_within (groups program g at) k.0 r.0 r.1 in
    by k.0 r.0 k.1 r.1 r.2 below (length (groups program g at) == 1) refl
  where
    by : (k r : ℕ) → slice_get x.numbers c ≡ Some k → slice_get (groups program g at) k ≡ Some r
        → group_of program (argument_classes g at) r ≡ group_of program (argument_classes g at) c → k < length (groups program g at)
        → (b : Bool) → (length (groups program g at) == 1) ≡ b → HasGroup program g at a c
    by k r found there same below true e =
        let one : length (groups program g at) ≡ 1 = grind arith in
        let is : a ≡ Whole = rw e at x.kept in
        let first : k ≡ 0 = omega arith in
        record {
          first = r;
          there = rw is (ap (slice_get (groups program g at)) (sym first) ∙ there);
          same = same;
          count = rw is (sym one);
        }
    by k r found there same below false e =
        let is : a ≡ Mapped (length (groups program g at)) x.numbers = rw e at x.kept in
        let number : slice_index_or x.numbers c 0 ≡ k = get_or_from_slice_get x.numbers c k 0 found in
        record {
          first = r;
          there = rw is (ap (slice_get (groups program g at)) number ∙ there);
          same = same;
          count = ap count_in is;
        }

-- a number is that of the classes so far, where with any tuple of the others it is that of all
abbrev pub IsPlaced : ProgramRows → GenericRow → List ℕ → ℕ → ℕ → Type 0
IsPlaced program g cs number at =
    (m : ℕ) → at + m ≡ g.required → (j : ℕ) (ts : List ℕ) → slice_get (tuples_from program g at m) j ≡ Some ts
    → AreAlike program (columns_from g at m) ts (drop at cs)
    → IsPlaceOf program g cs (number * length (tuples_from program g at m) + j)

-- the index as far as it is counted, which stops at the greatest number
pub record Indexing (program : ProgramRows) (g : GenericRow) (cs : List ℕ) (index at : ℕ) : Type 0 where
  pub number : ℕ
  pub is : index ≡ min number 18446744073709551615
  pub placed : IsPlaced program g cs number at

pub indexing_none : (program : ProgramRows) (g : GenericRow) (cs : List ℕ) → Indexing program g cs 0 0
indexing_none program g cs = record {
  number = 0;
  is = refl;
  placed = λ m e j ts h x.
      let all : m ≡ g.required = omega arith in
      let index : 0 * length (tuples_from program g 0 m) + j ≡ j = omega arith in
      record {
        tuple = ts;
        at = ap (slice_get (tuples_of program g)) index ∙ (let here = rw all at h in here);
        alike = (let here = rw all at x in here);
      };
}

either : (a m : ℕ) → (a ≤ m) ⊎ (m ≤ a)
either zero m = inl (omega arith)
either (suc a) zero = inr (omega arith)
either (suc a) (suc m) = ⊎_elim (λ h. let t : suc a ≤ suc m = omega arith in inl t) (λ h. let t : suc m ≤ suc a = omega arith in inr t) (either a m)

saturated : (number index n k first next m : ℕ) → index ≡ min number m → k < n → first ≡ min (index * n) m → next ≡ min (first + k) m
    → next ≡ min (number * n + k) m
saturated number index zero k first next m a b d e = absurd (omega arith)
saturated number index (suc n) k first next m a b d e = ⊎_elim (λ h. small h) (λ h. large h) (either number m)
  where
    small : number ≤ m → next ≡ min (number * suc n + k) m
    small h = let is : index ≡ number = omega arith in let f = rw is at d in omega arith

    large : m ≤ number → next ≡ min (number * suc n + k) m
    large h =
        let is : index ≡ m = omega arith in
        let f : first ≡ min (m * suc n) m = rw is at d in
        let most : first ≡ m = omega arith in
        let more : number ≤ number * suc n = omega arith in
        omega arith

regrouped : (n g l k j : ℕ) → n * (g * l) + (k * l + j) ≡ (n * g + k) * l + j
regrouped n g l k j = grind arith

-- one argument more
pub indexing_more : (program : ProgramRows) (g : GenericRow) (cs : List ℕ) (index at : ℕ) (a : ArgumentMap) (c first next : ℕ)
    → Indexing program g cs index at → IsMapOf program g at a → slice_get cs at ≡ Some c → c < length program.classes
    → first ≡ min (index * count_in a) 18446744073709551615 → next ≡ min (first + number_in a c) 18446744073709551615
    → Indexing program g cs next (at + 1)
indexing_more program g cs index at a c first next x am h below f s =
    let group : HasGroup program g at a c = group_in_map program g at a c am below in
    let fits : number_in a c < count_in a = omega (arith, slice_get_within (groups program g at) (number_in a c) group.first group.there, group.count) in
    record {
      number = x.number * count_in a + number_in a c;
      is = saturated x.number index (count_in a) (number_in a c) first next 18446744073709551615 x.is fits f s;
      placed = λ m e j ts there alike.
          let k = number_in a c in
          let n = length (groups program g at) in
          let rest = length (tuples_from program g (at + 1) m) in
          let tuple : slice_get (tuples_from program g at (suc m)) (k * rest + j) ≡ Some (group.first ∷ ts) =
          tuple_at (groups program g at) (map (groups program g) (range_with_len (at + 1) m)) k j group.first ts group.there there in
          let same : AreAlike program (columns_from g at (suc m)) (group.first ∷ ts) (drop at cs) =
          rw (rest_at cs at c h) (group.same, alike) in
          let whole : IsPlaceOf program g cs (x.number * length (tuples_from program g at (suc m)) + (k * rest + j)) =
          x.placed (suc m) (omega arith) (k * rest + j) (group.first ∷ ts) tuple same in
          let size : length (tuples_from program g at (suc m)) ≡ n * rest =
          length-tuples (groups program g at) (map (groups program g) (range_with_len (at + 1) m)) in
          let index_is : x.number * length (tuples_from program g at (suc m)) + (k * rest + j) ≡ (x.number * count_in a + k) * rest + j =
          ap (λ l. x.number * l + (k * rest + j)) size ∙ regrouped x.number n rest k j ∙ ap (λ l. (x.number * l + k) * rest + j) (sym group.count) in
          let P : ℕ → Type 0 = λ i. IsPlaceOf program g cs i in
          subst P index_is whole;
    }

-- at the end the index is the number of the tuple
pub indexing_all : (program : ProgramRows) (g : GenericRow) (cs : List ℕ) (index at : ℕ) → Indexing program g cs index at → at ≡ g.required
    → length cs ≡ g.required → length (tuples_of program g) ≤ 262144 → IsPlaceOf program g cs index
indexing_all program g cs index at x e arity bounded =
    let none : drop at cs ≡ [] = drop_all at cs (omega arith) in
    let alike : AreAlike program [] [] (drop at cs) = rw none tt in
    let whole : IsPlaceOf program g cs (x.number * 1 + 0) = x.placed 0 (omega arith) 0 [] refl alike in
    let fits : x.number * 1 + 0 < length (tuples_of program g) = slice_get_within (tuples_of program g) (x.number * 1 + 0) whole.tuple whole.at in
    let is : x.number * 1 + 0 ≡ index = omega (arith, x.is) in
    let P : ℕ → Type 0 = λ i. IsPlaceOf program g cs i in
    subst P is whole

-- the cell at the number of a tuple

cell_option : (o : Option Kept) (k : Option Chain) → Some (maybe_seen o) ≡ Some k → maybe_seen o ≡ k
cell_option o k h = cc

pub cell_at : (program : ProgramRows) (g : GenericRow) (t : Table) (cs : List ℕ) (index : ℕ) (cell : Option Kept) → IsTableOf program g t
    → IsPlaceOf program g cs index → slice_get t.cells index ≡ Some cell → maybe_seen cell ≡ chain program g cs
cell_at program g t cs index cell x place h =
    let left : slice_get (map maybe_seen t.cells) index ≡ Some (maybe_seen cell) = slice_get-map maybe_seen t.cells index ∙ ap (option_map maybe_seen) h in
    let right : slice_get (map (chain program g) (tuples_of program g)) index ≡ Some (chain program g place.tuple) =
    slice_get-map (chain program g) (tuples_of program g) index ∙ ap (option_map (chain program g)) place.at in
    cell_option cell (chain program g place.tuple) (sym left ∙ ap (λ l. slice_get l index) x.cells ∙ right)
    ∙ chain_alike program g place.tuple cs place.alike

pub cell_there : (program : ProgramRows) (g : GenericRow) (t : Table) (cs : List ℕ) (index : ℕ) → IsTableOf program g t
    → IsPlaceOf program g cs index → length t.cells ≤ index → ⊥
cell_there program g t cs index x place h =
    let fits : index < length (tuples_of program g) = slice_get_within (tuples_of program g) index place.tuple place.at in
    let same : length t.cells ≡ length (tuples_of program g) =
    sym (length-map t.cells maybe_seen) ∙ ap length x.cells ∙ length-map (tuples_of program g) (chain program g) in
    omega arith
