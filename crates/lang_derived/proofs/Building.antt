-- Building data from the parts of right sides.
use Rattle.std.specs.Prelude.{◌≡◌, ℕ, zero, suc, ◌+◌, ◌-◌, ◌<◌, ◌≤◌, List, [], ◌∷◌, ◌++◌, length, Some, slice_get, take, Result, Ok, Err, IfOk, refl}
use Rattle.std.proofs.Common.{arith, ap, ◌∙◌, subst, sym, append_assoc, append-nil, length-append}
use Rattle.std.proofs.Common.{get_or}
use Rattle.std.proofs.lemmas.Option.{slice_get_read}
use Rattle.base.specs.declared.place.Place.{Place}
use Rattle.base.specs.declared.datum.Symbol.{Symbol}
use Rattle.base.specs.declared.datum.Symbol.TheVariants.{Named, Fresh}
use Rattle.base.specs.declared.faults.NoMemory.{NoMemory}
use Rattle.base.specs.Data.{Item, item, symbol, Items, no_item, item_and, items_of}
use Rattle.base.specs.model.DataRest.{take_at}
use Rattle.base.specs.Names.{Extends, text_stays}
use Rattle.lang_derived.specs.Pieces.{Piece, word, made, taken, parens, Pieces, no_piece, piece_and, pieces_of, piece_size, pieces_size, in_parens, Builds, BuildsAll}
use Rattle.lang_derived.specs.Derived.{new_symbols}
use Rattle.lang_derived.specs.Prefixes.{IsPrefix}

-- under a later table
mutual
  unfolding Builds

  pub builds_later : (old new : List (List ℕ)) (p : Place) (x : Piece) (d : Item) → Extends old new → Builds old p x d → Builds new p x d
  builds_later old new p (word text) d e h = (h.0, (text_stays old new h.0 text e h.1.0, h.1.1))
  builds_later old new p (made serial) d e h = h
  builds_later old new p (taken f) d e h = h
  builds_later old new p (parens xs) d e h = (h.0, (all_later old new p xs h.0 e h.1.0, h.1.1))

  pub all_later : (old new : List (List ℕ)) (p : Place) (xs : Pieces) (ds : Items) → Extends old new → BuildsAll old p xs ds → BuildsAll new p xs ds
  all_later old new p no_piece ds e h = h
  all_later old new p (piece_and x xs) ds e h =
      (h.0, (h.1.0, (builds_later old new p x h.0 e h.1.1.0, all_later old new p xs h.1.0 e h.1.1.1, h.1.1.2)))

-- one more
pub built_more : (names : List (List ℕ)) (p : Place) (xs : List Piece) (x : Piece) (ds : List Item) (d : Item)
    → BuildsAll names p (pieces_of xs) (items_of ds) → Builds names p x d
    → BuildsAll names p (pieces_of (xs ++ x ∷ [])) (items_of (ds ++ d ∷ []))
unfolding BuildsAll
built_more names p [] x [] d h b = (d, (no_item, (b, refl, refl)))
built_more names p [] x (e ∷ es) d h b = absurd (cc)
built_more names p (y ∷ ys) x [] d h b = let no : no_item ≡ item_and h.0 h.1.0 = h.1.1.2 in absurd (cc)
built_more names p (y ∷ ys) x (e ∷ es) d h b =
    let both : item_and e (items_of es) ≡ item_and h.0 h.1.0 = h.1.1.2 in
    let first : h.0 ≡ e = cc in
    let rest : h.1.0 ≡ items_of es = cc in
    let P : Item → Type 0 = λ f. Builds names p y f in
    let Q : Items → Type 0 = λ fs. BuildsAll names p (pieces_of ys) fs in
    (e, (items_of (es ++ d ∷ []), (subst P first h.1.1.0, built_more names p ys x es d (subst Q rest h.1.1.1) b, refl)))

pub none_built : (names : List (List ℕ)) (p : Place) → BuildsAll names p (pieces_of []) (items_of [])
unfolding BuildsAll
none_built names p = refl

-- a turn of a loop over parts
pub built_turn : (old new : List (List ℕ)) (p : Place) (xs : List Piece) (i : ℕ) (x : Piece) (ds es : List Item) (d : Item)
    → slice_get xs i ≡ Some x → Extends old new → BuildsAll old p (pieces_of (take i xs)) (items_of ds) → Builds new p x d
    → es ≡ ds ++ d ∷ []
    → BuildsAll new p (pieces_of (take (i + 1) xs)) (items_of es)
built_turn old new p xs i x ds es d at e h b same =
    rw (take_at xs i x at, same) (built_more new p (take i xs) x ds d (all_later old new p (pieces_of (take i xs)) (items_of ds) e h) b)

-- the item that a loop over a list has come to
pub read_at : {X : Type 0} (xs ys : List X) (i : ℕ) (x : X) → ys ≡ xs → i < length ys → x ≡ get_or ys i x → slice_get xs i ≡ Some x
read_at xs ys i x e h is = rw (← e) (slice_get_read ys (length ys) i x refl h is)

pieces_size_above : (xs : List Piece) → 0 < pieces_size (pieces_of xs)
pieces_size_above [] = omega arith
pieces_size_above (x ∷ xs) = omega arith

-- a part is smaller than the parts that it stands in
pub piece_in_smaller : (xs : List Piece) (i : ℕ) (x : Piece) → slice_get xs i ≡ Some x → piece_size x < pieces_size (pieces_of xs)
piece_in_smaller [] i x h = absurd (cc)
piece_in_smaller (y ∷ ys) zero x h =
    let same : piece_size y ≡ piece_size x = cc in omega (arith, pieces_size_above ys)
piece_in_smaller (y ∷ ys) (suc i) x h = omega (arith, piece_in_smaller ys i x h)

-- one part

pub word_built : (names : List (List ℕ)) (p : Place) (text : List ℕ) (n : ℕ) (d : Item) → slice_get names n ≡ Some text
    → d ≡ item p (symbol (Named (record { 0 = n }))) → Builds names p (word text) d
unfolding Builds
word_built names p text n d h e = (n, (h, e))

pub made_built : (names : List (List ℕ)) (p : Place) (x : Piece) (s : ℕ) (d : Item) → x ≡ made s → d ≡ item p (symbol (Fresh 0 s)) → Builds names p x d
unfolding Builds
made_built names p x s d h e = rw h e

pub taken_built : (names : List (List ℕ)) (p : Place) (x : Piece) (e d : Item) → x ≡ taken e → d ≡ e → Builds names p x d
unfolding Builds
taken_built names p x e d h f = rw h f

pub parens_built : (names : List (List ℕ)) (p : Place) (x : Piece) (xs : List Piece) (ds : List Item) (d : Item) → x ≡ parens (pieces_of xs)
    → BuildsAll names p (pieces_of xs) (items_of ds) → d ≡ item p (in_parens (items_of ds)) → Builds names p x d
unfolding Builds
parens_built names p x xs ds d h b e = rw h (items_of ds, (b, e))

pub copy_built : (names : List (List ℕ)) (p : Place) (x : Piece) (e : Item) (r : Result Item NoMemory) → x ≡ taken e → IfOk r (λ d. d ≡ e)
    → IfOk r (λ d. Builds names p x d)
copy_built names p x e (Ok d) h f = taken_built names p x e d h f
copy_built names p x e (Err stop) h f = tt

-- new symbols

pub new_turn : (fresh later all : List Symbol) (count turn : ℕ) → turn < count → later ≡ fresh ++ Fresh 0 (length fresh) ∷ []
    → fresh ++ new_symbols (length fresh) (count - turn) ≡ all
    → later ++ new_symbols (length later) (count - (turn + 1)) ≡ all
new_turn fresh later all count turn h l done =
    let long : length (fresh ++ Fresh 0 (length fresh) ∷ []) ≡ length fresh + 1 = length-append fresh (Fresh 0 (length fresh) ∷ []) in
    let left : suc (count - (turn + 1)) ≡ count - turn = omega arith in
    rw (l, long)
    (append_assoc fresh (Fresh 0 (length fresh) ∷ []) (new_symbols (length fresh + 1) (count - (turn + 1)))
    ∙ ap (λ n. fresh ++ new_symbols (length fresh) n) left ∙ done)

pub new_end : (fresh all : List Symbol) (count turn : ℕ) → count ≤ turn → fresh ++ new_symbols (length fresh) (count - turn) ≡ all → fresh ≡ all
new_end fresh all count turn h done =
    let none : count - turn ≡ 0 = omega arith in
    sym (append-nil fresh) ∙ ap (λ n. fresh ++ new_symbols (length fresh) n) (sym none) ∙ done

pub prefix_still : (first fresh later : List Symbol) (x : Symbol) → IsPrefix first fresh → later ≡ fresh ++ x ∷ [] → IsPrefix first later
prefix_still first fresh later x b l = record { rest = b.rest ++ x ∷ []; is = l ∙ ap (λ xs. xs ++ x ∷ []) b.is ∙ append_assoc first b.rest (x ∷ []) }

pub prefix_shorter : (first fresh : List Symbol) → IsPrefix first fresh → length first ≤ length fresh
prefix_shorter first fresh b = rw b.is (omega (arith, length-append first b.rest))

front_taken : (xs ys : List Symbol) → take (length xs) (xs ++ ys) ≡ xs
front_taken [] ys = refl
front_taken (x ∷ xs) ys = ap (λ zs. x ∷ zs) (front_taken xs ys)

pub prefix_cut : (first fresh : List Symbol) → IsPrefix first fresh → take (length first) fresh ≡ first
prefix_cut first fresh b = rw b.is (front_taken first b.rest)
