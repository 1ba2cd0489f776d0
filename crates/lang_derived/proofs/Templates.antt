-- Quasiquotation, by the kinds of a template.
use Rattle.std.specs.Prelude.{◌≡◌, ℕ, ◌+◌, ◌<◌, Bool, true, false, List, [], ◌∷◌, ◌++◌, Some, None, if◌then◌else◌, codes, length, refl, Result, Ok, Err, OnOk}
use Rattle.std.proofs.Common.{arith, ap, ◌∙◌, sym, append-nil}
use Rattle.base.specs.Data.{Item, item, integer, character, symbol, string, vector, nil, list, no_item, item_and, items_of, Tail, no_tail, dotted, item_size, items_size}
use Rattle.base.specs.declared.faults.NoMemory.{NoMemory}
use Rattle.lang_derived.specs.Pieces.{Piece, Pieces, no_piece, piece_and, pieces_of, form}
use Rattle.lang_derived.specs.Asked.{is_word}
use Rattle.lang_derived.specs.Quotation.{template, tail_part, template_list, unquoted, spliced, part, parts, appended, one_piece}
use Rattle.lang_derived.specs.Templates.{only_of, splicing, last_unquoted}
use Rattle.lang_derived.specs.Prefixes.{pieces_before}

chosen : {X : Type 0} (b : Bool) (e d : X) → (if b then Some e else None) ≡ Some d → (b ≡ true) × (e ≡ d)
chosen true e d h = (refl, cc)
chosen false e d h = absurd (cc)

not_chosen : {X : Type 0} (b : Bool) (e : X) → (if b then Some e else None) ≡ None → b ≡ false
not_chosen true e h = absurd (cc)
not_chosen false e h = refl

-- an item that is spliced
pub part_spliced : (names : List (List ℕ)) (n : ℕ) (d e : Item) → splicing names d ≡ Some e → part names n d ≡ spliced names n e
unfolding part
part_spliced names n (item p (integer z)) e h = absurd (cc)
part_spliced names n (item p (character z)) e h = absurd (cc)
part_spliced names n (item p (symbol s)) e h = absurd (cc)
part_spliced names n (item p (string bytes)) e h = absurd (cc)
part_spliced names n (item p (vector ds)) e h = absurd (cc)
part_spliced names n (item p nil) e h = absurd (cc)
part_spliced names n (item p (list no_item no_tail)) e h = absurd (cc)
part_spliced names n (item p (list (item_and x no_item) no_tail)) e h = absurd (cc)
part_spliced names n (item p (list (item_and x (item_and y no_item)) no_tail)) e h =
    let c : (is_word names (codes "unquote-splicing") x ≡ true) × (y ≡ e) = chosen (is_word names (codes "unquote-splicing") x) y e h in
    rw c.0 (ap (spliced names n) c.1)
part_spliced names n (item p (list (item_and x (item_and y (item_and z ds))) no_tail)) e h = absurd (cc)
part_spliced names n (item p (list ds (dotted t))) e h = absurd (cc)

-- another item
pub part_other : (names : List (List ℕ)) (n : ℕ) (d : Item) → splicing names d ≡ None → part names n d ≡ form (codes "%list") (template names n d ∷ [])
unfolding part
part_other names n (item p (integer z)) h = refl
part_other names n (item p (character z)) h = refl
part_other names n (item p (symbol s)) h = refl
part_other names n (item p (string bytes)) h = refl
part_other names n (item p (vector ds)) h = refl
part_other names n (item p nil) h = refl
part_other names n (item p (list no_item t)) h = refl
part_other names n (item p (list (item_and x no_item) t)) h = refl
part_other names n (item p (list (item_and x (item_and y no_item)) no_tail)) h =
    let c : is_word names (codes "unquote-splicing") x ≡ false = not_chosen (is_word names (codes "unquote-splicing") x) y h in
    rw c refl
part_other names n (item p (list (item_and x (item_and y no_item)) (dotted t))) h = refl
part_other names n (item p (list (item_and x (item_and y (item_and z ds))) t)) h = refl

-- what is spliced is smaller
pub spliced_smaller : (names : List (List ℕ)) (d e : Item) → splicing names d ≡ Some e → item_size e < item_size d
spliced_smaller names (item p (integer z)) e h = absurd (cc)
spliced_smaller names (item p (character z)) e h = absurd (cc)
spliced_smaller names (item p (symbol s)) e h = absurd (cc)
spliced_smaller names (item p (string bytes)) e h = absurd (cc)
spliced_smaller names (item p (vector ds)) e h = absurd (cc)
spliced_smaller names (item p nil) e h = absurd (cc)
spliced_smaller names (item p (list no_item no_tail)) e h = absurd (cc)
spliced_smaller names (item p (list (item_and x no_item) no_tail)) e h = absurd (cc)
spliced_smaller names (item p (list (item_and x (item_and y no_item)) no_tail)) e h =
    let c : (is_word names (codes "unquote-splicing") x ≡ true) × (y ≡ e) = chosen (is_word names (codes "unquote-splicing") x) y e h in
    omega (arith, ap item_size c.1)
spliced_smaller names (item p (list (item_and x (item_and y (item_and z ds))) no_tail)) e h = absurd (cc)
spliced_smaller names (item p (list ds (dotted t))) e h = absurd (cc)

-- a list of two items
pub pair_list : (names : List (List ℕ)) (n : ℕ) (x e : Item) (ds : List Item) (t : Tail) → only_of ds t ≡ Some e
    → template_list names n (items_of (x ∷ ds)) (tail_part names n t) ≡ template_list names n (items_of (x ∷ e ∷ [])) no_piece
unfolding tail_part
pair_list names n x e [] t h = absurd (cc)
pair_list names n x e (d ∷ []) no_tail h =
    let same : d ≡ e = cc in ap (λ y. template_list names n (items_of (x ∷ y ∷ [])) no_piece) same
pair_list names n x e (d ∷ []) (dotted y) h = absurd (cc)
pair_list names n x e (d ∷ d2 ∷ ds) t h = absurd (cc)

-- another list
pub other_list : (names : List (List ℕ)) (n : ℕ) (x : Item) (ds : List Item) (t : Tail) → only_of ds t ≡ None
    → template_list names n (items_of (x ∷ ds)) (tail_part names n t) ≡ appended (parts names n (items_of (x ∷ ds)) (tail_part names n t))
unfolding template_list parts tail_part
other_list names n x [] t h = refl
other_list names n x (d ∷ []) no_tail h = absurd (cc)
other_list names n x (d ∷ []) (dotted y) h = refl
other_list names n x (d ∷ d2 ∷ ds) t h = refl

-- the only datum that is left is smaller than the list
pub only_smaller : (x e : Item) (ds : List Item) (t : Tail) → only_of ds t ≡ Some e
    → item_size x + item_size e + 1 < items_size (items_of (x ∷ ds))
only_smaller x e [] t h = absurd (cc)
only_smaller x e (d ∷ []) no_tail h = let same : d ≡ e = cc in omega (arith, ap item_size same)
only_smaller x e (d ∷ []) (dotted y) h = absurd (cc)
only_smaller x e (d ∷ d2 ∷ ds) t h = absurd (cc)

-- the last two items of a list
pub parts_unquoted : (names : List (List ℕ)) (n : ℕ) (x e : Item) (ds : List Item) (t : Tail) → last_unquoted names x (only_of ds t) ≡ Some e
    → parts names n (items_of (x ∷ ds)) (tail_part names n t) ≡ one_piece (unquoted names n e)
unfolding parts tail_part
parts_unquoted names n x e [] t h = absurd (cc)
parts_unquoted names n x e (d ∷ []) no_tail h =
    let c : (is_word names (codes "unquote") x ≡ true) × (d ≡ e) = chosen (is_word names (codes "unquote") x) d e h in
    rw c.0 (ap (λ y. one_piece (unquoted names n y)) c.1)
parts_unquoted names n x e (d ∷ []) (dotted y) h = absurd (cc)
parts_unquoted names n x e (d ∷ d2 ∷ ds) t h = absurd (cc)

-- another item
pub parts_other : (names : List (List ℕ)) (n : ℕ) (x : Item) (ds : List Item) (t : Tail) → last_unquoted names x (only_of ds t) ≡ None
    → parts names n (items_of (x ∷ ds)) (tail_part names n t) ≡ piece_and (part names n x) (parts names n (items_of ds) (tail_part names n t))
unfolding parts tail_part
parts_other names n x [] t h = refl
parts_other names n x (d ∷ []) no_tail h =
    let c : is_word names (codes "unquote") x ≡ false = not_chosen (is_word names (codes "unquote") x) d h in
    rw c refl
parts_other names n x (d ∷ []) (dotted y) h = refl
parts_other names n x (d ∷ d2 ∷ ds) t h = refl

pub last_smaller : (names : List (List ℕ)) (x e : Item) (ds : List Item) (t : Tail) → last_unquoted names x (only_of ds t) ≡ Some e
    → item_size e + 1 < items_size (items_of (x ∷ ds))
last_smaller names x e [] t h = absurd (cc)
last_smaller names x e (d ∷ []) no_tail h =
    let c : (is_word names (codes "unquote") x ≡ true) × (d ≡ e) = chosen (is_word names (codes "unquote") x) d e h in
    omega (arith, ap item_size c.1)
last_smaller names x e (d ∷ []) (dotted y) h = absurd (cc)
last_smaller names x e (d ∷ d2 ∷ ds) t h = absurd (cc)

-- parts in front of parts
pub before_more : (xs : List Piece) (y : Piece) (ys : Pieces) → pieces_before (xs ++ y ∷ []) ys ≡ pieces_before xs (piece_and y ys)
before_more [] y ys = refl
before_more (x ∷ xs) y ys = ap (piece_and x) (before_more xs y ys)

pub before_all : (xs ys : List Piece) → pieces_of (xs ++ ys) ≡ pieces_before xs (pieces_of ys)
before_all [] ys = refl
before_all (x ∷ xs) ys = ap (piece_and x) (before_all xs ys)

-- a turn of the loop over the items
pub parts_turn : (names : List (List ℕ)) (n : ℕ) (rest others : List Item) (x : Item) (t : Tail) (goal : Pieces) (xs ys : List Piece) (y : Piece)
    → rest ≡ x ∷ others → last_unquoted names x (only_of others t) ≡ None → y ≡ part names n x → ys ≡ xs ++ y ∷ []
    → pieces_before xs (parts names n (items_of rest) (tail_part names n t)) ≡ goal
    → pieces_before ys (parts names n (items_of others) (tail_part names n t)) ≡ goal
parts_turn names n rest others x t goal xs ys y r h p l done =
    rw (l, p)
    (before_more xs (part names n x) (parts names n (items_of others) (tail_part names n t))
    ∙ ap (pieces_before xs) (sym (parts_other names n x others t h))
    ∙ ap (λ ds. pieces_before xs (parts names n (items_of ds) (tail_part names n t))) (sym r)
    ∙ done)

-- its last turn, where `unquote e` is left
pub parts_last : {T : Type 0} (out : Result T NoMemory) (names : List (List ℕ)) (n : ℕ) (rest others : List Item) (x e : Item) (t : Tail) (goal : Pieces) (xs ys : List Piece)
    → rest ≡ x ∷ others → last_unquoted names x (only_of others t) ≡ Some e → OnOk out (ys ≡ xs ++ unquoted names n e ∷ [])
    → pieces_before xs (parts names n (items_of rest) (tail_part names n t)) ≡ goal
    → OnOk out (pieces_of ys ≡ goal)
parts_last (Ok z) names n rest others x e t goal xs ys r h l done =
    rw l
    (before_all xs (unquoted names n e ∷ [])
    ∙ ap (pieces_before xs) (sym (parts_unquoted names n x e others t h))
    ∙ ap (λ ds. pieces_before xs (parts names n (items_of ds) (tail_part names n t))) (sym r)
    ∙ done)
parts_last (Err stop) names n rest others x e t goal xs ys r h l done = tt

-- after the last item
pub parts_end : (names : List (List ℕ)) (n : ℕ) (rest : List Item) (t : Tail) (goal : Pieces) (xs : List Piece) → length rest ≡ 0 → t ≡ no_tail
    → pieces_before xs (parts names n (items_of rest) (tail_part names n t)) ≡ goal
    → pieces_of xs ≡ goal
unfolding parts tail_part
parts_end names n [] t goal xs r e done =
    ap pieces_of (sym (append-nil xs)) ∙ before_all xs [] ∙ ap (λ s. pieces_before xs (parts names n (items_of []) (tail_part names n s))) (sym e) ∙ done
parts_end names n (d ∷ ds) t goal xs r e done = absurd (omega arith)

-- the same, with a dot behind it
pub parts_dotted : {T : Type 0} (out : Result T NoMemory) (names : List (List ℕ)) (n : ℕ) (rest : List Item) (t : Tail) (d : Item) (goal : Pieces) (xs ys : List Piece)
    → length rest ≡ 0 → t ≡ dotted d → OnOk out (ys ≡ xs ++ template names n d ∷ [])
    → pieces_before xs (parts names n (items_of rest) (tail_part names n t)) ≡ goal
    → OnOk out (pieces_of ys ≡ goal)
unfolding parts tail_part
parts_dotted (Ok z) names n [] t d goal xs ys r e l done =
    rw l (before_all xs (template names n d ∷ []) ∙ ap (λ s. pieces_before xs (parts names n (items_of []) (tail_part names n s))) (sym e) ∙ done)
parts_dotted (Ok z) names n (x ∷ es) t d goal xs ys r e l done = absurd (omega arith)
parts_dotted (Err stop) names n rest t d goal xs ys r e l done = tt
