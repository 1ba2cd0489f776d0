-- The turns of the loops that print.
use Rattle.std.specs.Prelude.{◌≡◌, ℕ, ◌+◌, ◌≤◌, Bool, true, false, ◌||◌, ◌==◌, List, [], ◌∷◌, ◌++◌, length, Some, slice_get, drop, if◌then◌else◌, refl}
use Rattle.std.proofs.Common.{arith, sym, ◌∙◌, ap, append_assoc, append-nil}
use Rattle.std.proofs.lemmas.List.{drop_all}
use Rattle.std.proofs.lemmas.Bool.Decides.{nat_tests}
use Rattle.base.specs.Data.{Item, items_of}
use Rattle.base.specs.model.DataRest.{items_at}
use Rattle.front_reader.specs.Printing.{escapes, gap_before, spelling, items_spelling}

-- the escapes of a list from a byte on
pub escapes_cons : (quote b : ℕ) (bs : List ℕ) → escapes quote (b ∷ bs) ≡ escapes quote (b ∷ []) ++ escapes quote bs
escapes_cons quote b bs = by (b == quote || b == 92)
  where
    by : (e : Bool) → (if e then 92 ∷ b ∷ escapes quote bs else b ∷ escapes quote bs) ≡ (if e then 92 ∷ b ∷ [] else b ∷ []) ++ escapes quote bs
    by true = refl
    by false = refl

never_first : (i : ℕ) → (i + 1 == 0) ≡ false
never_first i = grind (arith, nat_tests)

-- a datum behind its gap, and then the others
pub items_spelling_at : (names : List (List ℕ)) (ds : List Item) (i : ℕ) (d : Item) → slice_get ds i ≡ Some d
    → items_spelling names (gap_before i) (items_of (drop i ds))
    ≡ gap_before i ++ (spelling names d ++ items_spelling names (gap_before (i + 1)) (items_of (drop (i + 1) ds)))
unfolding items_spelling
items_spelling_at names ds i d h =
    let later : gap_before (i + 1) ≡ 32 ∷ [] = rw (never_first i) refl in
    rw later (ap (items_spelling names (gap_before i)) (items_at ds i d h))

pub items_spelling_end : (names : List (List ℕ)) (gap : List ℕ) (ds : List Item) (i : ℕ) → length ds ≤ i → items_spelling names gap (items_of (drop i ds)) ≡ []
unfolding items_spelling
items_spelling_end names gap ds i h = rw (drop_all i ds h) refl

-- a turn of the loop, whatever else the code calls the parts
pub turn : (out out1 out2 gap datum rest whole target : List ℕ) → out1 ≡ out ++ gap → out2 ≡ out1 ++ datum
    → whole ≡ gap ++ (datum ++ rest) → out ++ whole ≡ target → out2 ++ rest ≡ target
turn out out1 out2 gap datum rest whole target a b e f =
    rw (b, a) (turned ∙ ap (λ w. out ++ w) (sym e) ∙ f)
  where
    turned : ((out ++ gap) ++ datum) ++ rest ≡ out ++ (gap ++ (datum ++ rest))
    turned = simp append_assoc

pub end : (out rest target : List ℕ) → rest ≡ [] → out ++ rest ≡ target → out ≡ target
end out rest target e f = sym (append-nil out) ∙ ap (λ w. out ++ w) (sym e) ∙ f
