-- Lists of data, as contracts see them and as a datum holds them; lists of parts, with one more.
use Rattle.std.specs.Prelude.{◌≡◌, ℕ, ◌<◌, List, [], ◌∷◌, ◌++◌, length, Result, Ok, Err, IfOk, OnOk, IsOkAnd}
use Rattle.std.proofs.Common.{arith, ap, ◌∙◌, sym}
use Rattle.base.specs.declared.place.Place.{Place}
use Rattle.base.specs.Data.{Item, item, list, Tail, items_of, items_list}
use Rattle.base.specs.DataMeasures.{Formed, AllFormed, FormedTail, NamesBelow, AllNamesBelow, NamesBelowTail}
use Rattle.base.specs.declared.faults.NoMemory.{NoMemory}
use Rattle.base.specs.model.DataView.{items_list-items_of}
use Rattle.lang_derived.specs.Pieces.{Piece}

pub shown_items : (ds : List Item) → items_list (items_of ds) ≡ ds
shown_items ds = items_list-items_of ds

-- a part that was made, and appended
pub pushed : {T : Type 0} (old new : List Piece) (x : Piece) (made : Result Piece NoMemory) (out : Result T NoMemory) → IfOk made (λ y. y ≡ x)
    → OnOk out (IsOkAnd made (λ y. new ≡ old ++ y ∷ [])) → OnOk out (new ≡ old ++ x ∷ [])
pushed old new x (Ok y) (Ok z) h g = g ∙ ap (λ (w : Piece). old ++ w ∷ []) h
pushed old new x (Err stop) (Ok z) h g = absurd g
pushed old new x made (Err stop) h g = tt

pub pushed_ok : (old new : List Piece) (x : Piece) (made : Result Piece NoMemory) → IfOk made (λ y. y ≡ x)
    → IsOkAnd made (λ y. new ≡ old ++ y ∷ []) → new ≡ old ++ x ∷ []
pushed_ok old new x (Ok y) h g = g ∙ ap (λ (w : Piece). old ++ w ∷ []) h
pushed_ok old new x (Err stop) h g = absurd g

pub pushed_single : {T : Type 0} (old new all : List Piece) (made : Result Piece NoMemory) (out : Result T NoMemory) → IfOk made (λ y. all ≡ y ∷ [])
    → OnOk out (IsOkAnd made (λ y. new ≡ old ++ y ∷ [])) → OnOk out (new ≡ old ++ all)
pushed_single old new all (Ok y) (Ok z) h g = g ∙ ap (λ (w : List Piece). old ++ w) (sym h)
pushed_single old new all (Err stop) (Ok z) h g = absurd g
pushed_single old new all made (Err stop) h g = tt

-- a list with an item is in form where its items and its tail are
pub list_formed : (n : ℕ) (p : Place) (d : Item) (ds es : List Item) (t : Tail) → d ≡ item p (list (items_of ds) t) → es ≡ ds → 0 < length ds
    → AllFormed (items_of es) × AllNamesBelow n (items_of es) → FormedTail t × NamesBelowTail n t → Formed d × NamesBelow n d
unfolding Formed NamesBelow
list_formed n p d [] es t e f h a b = absurd (omega arith)
list_formed n p d (x ∷ xs) es t e f h a b =
    let c : AllFormed (items_of (x ∷ xs)) × AllNamesBelow n (items_of (x ∷ xs)) = rw f at a in
    rw e ((λ g. absurd (cc), c.0, b.0), (c.1, b.1))
