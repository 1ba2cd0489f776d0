-- Items of lists, and beginnings of lists.
use Rattle.std.proofs.Common.{◌≡◌, ℕ, suc, ◌+◌, ◌≤◌, List, [], ◌∷◌, ◌++◌, length, take, Some, refl, sym, ◌∙◌, ap, append_assoc, append-nil, length-append, arith}
use Rattle.std.specs.Prelude.{slice_get}
use Rattle.base.specs.Names.{slice_get-front}
use Rattle.mid_start.specs.Lists.{IsBeginning}

pub beginning_same : {X : Type 0} (xs : List X) → IsBeginning xs xs
beginning_same xs = record { added = []; begins = sym (append-nil xs) }

pub beginning_more : {X : Type 0} (xs ys : List X) → IsBeginning xs (xs ++ ys)
beginning_more xs ys = record { added = ys; begins = refl }

pub beginning_both : {X : Type 0} (xs ys zs : List X) → IsBeginning xs ys → IsBeginning ys zs → IsBeginning xs zs
beginning_both xs ys zs g h = record {
  added = g.added ++ h.added;
  begins = h.begins ∙ ap (λ ws. ws ++ h.added) g.begins ∙ append_assoc xs g.added h.added;
}

-- an equal list with more behind it
pub beginning_of : {X : Type 0} (xs ys zs : List X) → zs ≡ xs ++ ys → IsBeginning xs zs
beginning_of xs ys zs e = record { added = ys; begins = e }

pub no_shorter : {X : Type 0} (xs ys : List X) → IsBeginning xs ys → length xs ≤ length ys
no_shorter xs ys h = rw h.begins (omega (arith, length-append xs h.added))

-- an item of the beginning is one of the list
pub item_stays : {X : Type 0} (xs ys : List X) (i : ℕ) (x : X) → IsBeginning xs ys → slice_get xs i ≡ Some x → slice_get ys i ≡ Some x
item_stays xs ys i x h e = rw h.begins (slice_get-front xs h.added i x e)

-- the beginning is back where the rest is cut off
pub cut_back : {X : Type 0} (xs ys : List X) → IsBeginning xs ys → take (length xs) ys ≡ xs
cut_back xs ys h = rw h.begins (taken xs h.added)
  where
    taken : {Y : Type 0} (us vs : List Y) → take (length us) (us ++ vs) ≡ us
    taken [] vs = refl
    taken (u ∷ us) vs = ap (λ ws. u ∷ ws) (taken us vs)

-- an item of a list behind another, by its place there
pub item_behind : {X : Type 0} (xs ys : List X) (i : ℕ) → slice_get (xs ++ ys) (length xs + i) ≡ slice_get ys i
item_behind [] ys i = ap (slice_get ys) (omega arith)
item_behind (x ∷ xs) ys i =
    let same : suc (length xs) + i ≡ suc (length xs + i) = omega arith in
    ap (slice_get (x ∷ xs ++ ys)) same ∙ item_behind xs ys i
