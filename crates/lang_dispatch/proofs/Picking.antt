-- Methods by their numbers, and the places of items in what is left of a list.
use Rattle.std.proofs.Common.{◌≡◌, ℕ, zero, suc, ◌+◌, ◌==◌, ◌≤◌, ◌<◌, get_or, Bool, true, false, not, nat_lt, List, [], ◌∷◌, ◌++◌, length, map, filter, reverse, take, drop, Option, Some, None, slice_get, insert, if◌then◌else◌, refl, sym, ap, ◌∙◌, append_assoc, arith}
use Rattle.std.specs.List.{position_or_len}
use Rattle.std.proofs.lemmas.Bool.Decides.{nat_tests}
use Rattle.std.proofs.lemmas.List.{drop_all, length-map, reverse-append}
use Rattle.std.proofs.lemmas.Option.{slice_get-map, slice_get_past, slice_get-get_or}
use Rattle.std.specs.Option.{option_map}
use Rattle.base.specs.model.DataRest.{rest_at, take_at}
use Rattle.lang_meaning.specs.declared.program.ProgramRows.{ProgramRows}
use Rattle.lang_meaning.specs.declared.program.MethodRow.{MethodRow}
use Rattle.lang_meaning.specs.declared.program.Qualifier.{Qualifier}
use Rattle.lang_meaning.specs.Classes.{precedence, more_specific, among, ordered, is_qualifier, of_kind}
use Rattle.lang_dispatch.specs.Chains.{ArePicked}

-- places

pub place_here : {X : Type 0} (p : X → Bool) (xs : List X) (i : ℕ) (x : X) → slice_get xs i ≡ Some x → p x ≡ true → position_or_len p (drop i xs) ≡ 0
place_here p xs i x h k = rw (rest_at xs i x h, k) refl

pub place_later : {X : Type 0} (p : X → Bool) (xs : List X) (i : ℕ) (x : X) → slice_get xs i ≡ Some x → p x ≡ false
    → position_or_len p (drop i xs) ≡ 1 + position_or_len p (drop (i + 1) xs)
place_later p xs i x h k = rw (rest_at xs i x h, k) refl

pub place_past : {X : Type 0} (p : X → Bool) (xs : List X) (i : ℕ) → length xs ≤ i → position_or_len p (drop i xs) ≡ 0
place_past p xs i h = rw (drop_all i xs h) refl

pub number_here : (x n : ℕ) → x ≡ n → (x == n) ≡ true
number_here x n e = grind (arith, nat_tests)

pub number_differs : (x n : ℕ) → (x ≡ n → ⊥) → (x == n) ≡ false
number_differs x n e = by (x == n) refl
  where
    by : (b : Bool) → (x == n) ≡ b → b ≡ false
    by true t = absurd (e (grind arith))
    by false t = refl

-- specificity

pub short_method : (program : ProgramRows) (cs ns : List ℕ) → more_specific program cs [] ns ≡ false
short_method program [] ns = refl
short_method program (c ∷ cs) ns = refl

pub short_other : (program : ProgramRows) (cs ms : List ℕ) → more_specific program cs ms [] ≡ false
short_other program [] ms = refl
short_other program (c ∷ cs) [] = refl
short_other program (c ∷ cs) (m ∷ ms) = refl

pub differ_here : (program : ProgramRows) (cs ms ns : List ℕ) (i c m n : ℕ) → slice_get cs i ≡ Some c → slice_get ms i ≡ Some m → slice_get ns i ≡ Some n
    → (m == n) ≡ false
    → more_specific program (drop i cs) (drop i ms) (drop i ns)
    ≡ nat_lt (position_or_len (λ d. d == m) (precedence program c)) (position_or_len (λ d. d == n) (precedence program c))
differ_here program cs ms ns i c m n h k l e = rw (rest_at cs i c h, rest_at ms i m k, rest_at ns i n l, e) refl

pub same_here : (program : ProgramRows) (cs ms ns : List ℕ) (i c m n : ℕ) → slice_get cs i ≡ Some c → slice_get ms i ≡ Some m → slice_get ns i ≡ Some n
    → (m == n) ≡ true
    → more_specific program (drop (i + 1) cs) (drop (i + 1) ms) (drop (i + 1) ns) ≡ more_specific program (drop i cs) (drop i ms) (drop i ns)
same_here program cs ms ns i c m n h k l e = rw (rest_at cs i c h, rest_at ms i m k, rest_at ns i n l, e) refl

-- methods by their numbers

picked_option : (o : Option MethodRow) (m : MethodRow) → option_map Some o ≡ Some (Some m) → o ≡ Some m
picked_option None m h = absurd (cc)
picked_option (Some n) m h = cc

pub picked_at : (ms xs : List MethodRow) (ns : List ℕ) (i n : ℕ) (m : MethodRow) → ArePicked ms ns xs → slice_get ns i ≡ Some n → slice_get ms n ≡ Some m
    → slice_get xs i ≡ Some m
picked_at ms xs ns i n m x h k =
    let left : slice_get (map (slice_get ms) ns) i ≡ Some (Some m) = slice_get-map (slice_get ms) ns i ∙ ap (option_map (slice_get ms)) h ∙ ap Some k in
    let right : slice_get (map Some xs) i ≡ option_map Some (slice_get xs i) = slice_get-map Some xs i in
    picked_option (slice_get xs i) m (sym right ∙ sym (ap (λ l. slice_get l i) x) ∙ left)

not_none : (o : Option MethodRow) → option_map Some o ≡ Some None → ⊥
not_none None h = cc
not_none (Some n) h = cc

pub picked_past : (ms xs : List MethodRow) (ns : List ℕ) (i n : ℕ) → ArePicked ms ns xs → slice_get ns i ≡ Some n → length ms ≤ n → ⊥
picked_past ms xs ns i n x h k =
    let left : slice_get (map (slice_get ms) ns) i ≡ Some None =
    slice_get-map (slice_get ms) ns i ∙ ap (option_map (slice_get ms)) h ∙ ap Some (slice_get_past ms n k) in
    let right : slice_get (map Some xs) i ≡ option_map Some (slice_get xs i) = slice_get-map Some xs i in
    not_none (slice_get xs i) (sym right ∙ sym (ap (λ l. slice_get l i) x) ∙ left)

pub picked_length : (ms xs : List MethodRow) (ns : List ℕ) → ArePicked ms ns xs → length ns ≡ length xs
picked_length ms xs ns x = sym (length-map ns (slice_get ms)) ∙ ap length x ∙ length-map xs Some

-- inserting

map-insert : {X Y : Type 0} (f : X → Y) (xs : List X) (i : ℕ) (x : X) → map f (insert xs i x) ≡ insert (map f xs) i (f x)
map-insert f [] zero x = refl
map-insert f [] (suc i) x = refl
map-insert f (y ∷ ys) zero x = refl
map-insert f (y ∷ ys) (suc i) x = ap (λ l. f y ∷ l) (map-insert f ys i x)

insert-later : {X : Type 0} (y : X) (ys : List X) (i : ℕ) (x : X) → insert (y ∷ ys) (1 + i) x ≡ y ∷ insert ys i x
insert-later y ys i x = let e : 1 + i ≡ suc i = omega arith in rw e refl

pub among-insert : (before : MethodRow → MethodRow → Bool) (m : MethodRow) (ns : List MethodRow)
    → among before m ns ≡ insert ns (position_or_len (λ n. before m n) ns) m
among-insert before m [] = refl
among-insert before m (n ∷ ns) =
    let rest : among before m ns ≡ insert ns (position_or_len (λ n. before m n) ns) m = among-insert before m ns in
    elim (before m n) as (λ b. (if b then m ∷ n ∷ ns else n ∷ among before m ns) ≡ insert (n ∷ ns) (if not b then 1 + position_or_len (λ n. before m n) ns else 0) m) [
      | true ↦ refl
      | false ↦ ap (λ l. n ∷ l) rest ∙ sym (insert-later n ns (position_or_len (λ n. before m n) ns) m)
    ]

pub picked-insert : (before : MethodRow → MethodRow → Bool) (ms xs : List MethodRow) (ns : List ℕ) (n place : ℕ) (m : MethodRow) → ArePicked ms ns xs
    → slice_get ms n ≡ Some m → place ≡ position_or_len (λ n. before m n) xs → ArePicked ms (insert ns place n) (among before m xs)
picked-insert before ms xs ns n place m x h e =
    map-insert (slice_get ms) ns place n
    ∙ ap (λ l. insert l place (slice_get ms n)) x
    ∙ ap (λ o. insert (map Some xs) place o) h
    ∙ sym (map-insert Some xs place m)
    ∙ ap (λ p. map Some (insert xs p m)) e
    ∙ ap (map Some) (sym (among-insert before m xs))

-- the last methods, with one more in front of them
pub ordered_here : (before : MethodRow → MethodRow → Bool) (p : MethodRow → Bool) (ms : List MethodRow) (k : ℕ) (m : MethodRow) → slice_get ms k ≡ Some m → p m ≡ true
    → ordered before (filter p (drop k ms)) ≡ among before m (ordered before (filter p (drop (k + 1) ms)))
ordered_here before p ms k m h e = rw (rest_at ms k m h, e) refl

-- kinds

pub kind_here : (q : Qualifier) (xs : List MethodRow) (i : ℕ) (m : MethodRow) → slice_get xs i ≡ Some m → is_qualifier q m.qualifier ≡ true
    → of_kind q (drop i xs) ≡ m.procedure ∷ of_kind q (drop (i + 1) xs)
kind_here q xs i m h e = rw (rest_at xs i m h, e) refl

pub kind_later : (q : Qualifier) (xs : List MethodRow) (i : ℕ) (m : MethodRow) → slice_get xs i ≡ Some m → is_qualifier q m.qualifier ≡ false
    → of_kind q (drop i xs) ≡ of_kind q (drop (i + 1) xs)
kind_later q xs i m h e = rw (rest_at xs i m h, e) refl

-- the rest from its end
pub reverse_turn : (done : List ℕ) (xs : List ℕ) (k x : ℕ) → slice_get xs k ≡ Some x → (done ++ x ∷ []) ++ reverse (take k xs) ≡ done ++ reverse (take (k + 1) xs)
reverse_turn done xs k x h =
    rw (take_at xs k x h, reverse-append (take k xs) (x ∷ [])) (append_assoc done (x ∷ []) (reverse (take k xs)))

-- an item that was read from a list
pub item_at : {X : Type 0} (xs ys : List X) (i : ℕ) (x : X) → xs ≡ ys → i < length xs → x ≡ get_or xs i x → slice_get ys i ≡ Some x
item_at xs ys i x e h k = rw (← e) (slice_get-get_or xs i x h ∙ ap Some (sym k))

-- a method that applies goes to its place, and one that does not is passed
pub applicable_turn : (before : MethodRow → MethodRow → Bool) (p : MethodRow → Bool) (ms : List MethodRow) (ns next : List ℕ) (k at place : ℕ) (m : MethodRow)
    → at ≡ k → slice_get ms at ≡ Some m → p m ≡ true → ArePicked ms ns (ordered before (filter p (drop (k + 1) ms)))
    → place ≡ position_or_len (λ n. before m n) (ordered before (filter p (drop (k + 1) ms))) → next ≡ insert ns place at
    → ArePicked ms next (ordered before (filter p (drop k ms)))
applicable_turn before p ms ns next k at place m e h passes x is put =
    let here : slice_get ms k ≡ Some m = rw e at h in
    let picked : ArePicked ms (insert ns place at) (among before m (ordered before (filter p (drop (k + 1) ms)))) =
    picked-insert before ms (ordered before (filter p (drop (k + 1) ms))) ns at place m x h is in
    rw (put, ordered_here before p ms k m here passes) picked

pub applicable_pass : (before : MethodRow → MethodRow → Bool) (p : MethodRow → Bool) (ms : List MethodRow) (ns next : List ℕ) (k at : ℕ) (m : MethodRow)
    → at ≡ k → slice_get ms at ≡ Some m → p m ≡ false → ArePicked ms ns (ordered before (filter p (drop (k + 1) ms)))
    → next ≡ ns → ArePicked ms next (ordered before (filter p (drop k ms)))
applicable_pass before p ms ns next k at m e h fails x same =
    let here : slice_get ms k ≡ Some m = rw e at h in
    rw (same, rest_at ms k m here, fails) x
