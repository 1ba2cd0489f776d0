-- Flags of classes that are set and cleared, and the lists of those whose flags are set.
use Rattle.std.proofs.Common.{◌≡◌, ℕ, ◌+◌, ◌-◌, ◌<◌, ◌≤◌, ◌==◌, ⊎_elim, Bool, true, false, not, ◌||◌, List, [], ◌∷◌, ◌++◌, length, map, filter, Some, slice_get, if◌then◌else◌, get_or, take, drop, refl, ap, sym, ◌∙◌, arith}
use Rattle.std.specs.Prelude.{slice_index_or}
use Rattle.std.proofs.lemmas.List.{drop_all}
use Rattle.std.proofs.lemmas.Option.{slice_get-get_or}
use Rattle.base.specs.Names.{slice_get-push}
use Rattle.base.specs.model.DataRest.{rest_at}
use Rattle.lang_meaning.specs.declared.program.MethodRow.{MethodRow}
use Rattle.lang_meaning.specs.Lookup.{is_in}
use Rattle.front_cells.specs.Flags.{AreFlags, IsSet}
use Rattle.front_cells.specs.Copies.{IsNextSet, HaveSameCommon}

pub flag_more : (flags : List Bool) → AreFlags [] flags → AreFlags [] (flags ++ false ∷ [])
flag_more flags h class flag e =
    ⊎_elim (λ old. h class flag old) (λ (p : (class ≡ length flags) × (false ≡ flag)). sym p.1) (slice_get-push flags false class flag e)

-- an item of a list that is another one
pub item_at : {X : Type 0} (xs ys : List X) (i : ℕ) (x : X) → xs ≡ ys → i < length xs → x ≡ get_or xs i x → slice_get ys i ≡ Some x
item_at xs ys i x e h k = rw (← e) (slice_get-get_or xs i x h ∙ ap Some (sym k))

pub not_false : (b : Bool) → not b ≡ false → b ≡ true
not_false true e = refl
not_false false e = absurd (cc e)

-- the class of a method
abbrev pub class_of : ℕ → MethodRow → ℕ
class_of argument m = slice_index_or m.classes argument 0

-- with those that are left, the flags say which class is in the list
pub record AreFlagsBut (left all : List ℕ) (flags : List Bool) : Type 0 where
  pub flagged : (class : ℕ) (flag : Bool) → slice_get flags class ≡ Some flag → (flag || is_in class left) ≡ is_in class all

-- those that are left may have flags still, and no other class has
pub record AreClearedBut (left : List ℕ) (flags : List Bool) : Type 0 where
  pub cleared : (class : ℕ) (flag : Bool) → slice_get flags class ≡ Some flag → is_in class left ≡ false → flag ≡ false

pub no_flag : (all : List ℕ) (flags : List Bool) → AreFlags [] flags → AreFlagsBut all all flags
no_flag all flags h = record { flagged = λ class flag e. ap (λ b. b || is_in class all) (h class flag e) }

or_false : (a : Bool) → (a || false) ≡ a
or_false true = refl
or_false false = refl

or_shift : (a b c : Bool) → ((if b then true else a) || c) ≡ (a || (b || c))
or_shift true true c = refl
or_shift true false c = refl
or_shift false true c = refl
or_shift false false c = refl

pub flag_set : (argument : ℕ) (ms : List MethodRow) (i : ℕ) (m : MethodRow) (all : List ℕ) (flags flags' : List Bool) → slice_get ms i ≡ Some m →
    IsSet (class_of argument m) true flags flags' → AreFlagsBut (map (class_of argument) (drop i ms)) all flags → AreFlagsBut (map (class_of argument) (drop (i + 1) ms)) all flags'
flag_set argument ms i m all flags flags' there set h = record {
  flagged = λ class flag' e.
      let from = set class flag' e in
      let rest : List ℕ = map (class_of argument) (drop (i + 1) ms) in
      ap (λ b. b || is_in class rest) from.1.1
      ∙ (or_shift from.0 (class == class_of argument m) (is_in class rest)
      ∙ (ap (λ ks. from.0 || is_in class (map (class_of argument) ks)) (sym (rest_at ms i m there)) ∙ h.flagged class from.0 from.1.0));
}

pub all_flags : (argument : ℕ) (ms : List MethodRow) (i : ℕ) (all : List ℕ) (flags : List Bool) → length ms ≤ i →
    AreFlagsBut (map (class_of argument) (drop i ms)) all flags → AreFlags all flags
all_flags argument ms i all flags past h class flag e =
    sym (or_false flag) ∙ (ap (λ ks. flag || is_in class (map (class_of argument) ks)) (sym (drop_all i ms past)) ∙ h.flagged class flag e)

pub flags_there : (all : List ℕ) (flags : List Bool) → AreFlags all flags → AreClearedBut all flags
flags_there all flags h = record { cleared = λ class flag e none. h class flag e ∙ none }

cleared_by : (b rest : Bool) (flag flag' : Bool) → flag' ≡ (if b then false else flag) → rest ≡ false → ((b || rest) ≡ false → flag ≡ false) → flag' ≡ false
cleared_by true rest flag flag' e none h = e
cleared_by false rest flag flag' e none h = e ∙ h none

pub flag_cleared : (argument : ℕ) (ms : List MethodRow) (i : ℕ) (m : MethodRow) (flags flags' : List Bool) → slice_get ms i ≡ Some m →
    IsSet (class_of argument m) false flags flags' → AreClearedBut (map (class_of argument) (drop i ms)) flags → AreClearedBut (map (class_of argument) (drop (i + 1) ms)) flags'
flag_cleared argument ms i m flags flags' there set h = record {
  cleared = λ class flag' e none.
      let from = set class flag' e in
      cleared_by (class == class_of argument m) (is_in class (map (class_of argument) (drop (i + 1) ms))) from.0 flag' from.1.1 none
      (λ k. h.cleared class from.0 from.1.0 (ap (λ ks. is_in class (map (class_of argument) ks)) (rest_at ms i m there) ∙ k));
}

pub all_cleared : (argument : ℕ) (ms : List MethodRow) (i : ℕ) (flags : List Bool) → length ms ≤ i →
    AreClearedBut (map (class_of argument) (drop i ms)) flags → AreFlags [] flags
all_cleared argument ms i flags past h class flag e =
    h.cleared class flag e (ap (λ ks. is_in class (map (class_of argument) ks)) (drop_all i ms past))

-- ---- lists of those whose flags are set

kept_or_not : (p : ℕ → Bool) (b : Bool) (x : ℕ) (xs : List ℕ) → p x ≡ b → filter p (x ∷ xs) ≡ (if b then x ∷ filter p xs else filter p xs)
kept_or_not p b x xs h = ap (λ v. if v then x ∷ filter p xs else filter p xs) h

-- one is passed, or kept

pub skip_one : (flags : List Bool) (list : List ℕ) (i x : ℕ) → slice_get list i ≡ Some x → slice_get flags x ≡ Some false → (column : List ℕ) → AreFlags column flags →
    filter (λ d. is_in d column) (drop i list) ≡ filter (λ d. is_in d column) (drop (i + 1) list)
skip_one flags list i x there flag column f =
    let p : ℕ → Bool = λ d. is_in d column in
    ap (filter p) (rest_at list i x there) ∙ kept_or_not p false x (drop (i + 1) list) (sym (f x false flag))

keep_one : (flags : List Bool) (list : List ℕ) (i x : ℕ) → slice_get list i ≡ Some x → slice_get flags x ≡ Some true → (column : List ℕ) → AreFlags column flags →
    filter (λ d. is_in d column) (drop i list) ≡ x ∷ filter (λ d. is_in d column) (drop (i + 1) list)
keep_one flags list i x there flag column f =
    let p : ℕ → Bool = λ d. is_in d column in
    ap (filter p) (rest_at list i x there) ∙ kept_or_not p true x (drop (i + 1) list) (sym (f x true flag))

-- the rests of two lists from places on have the same ones where the lists have
pub record HaveSameFrom (flags : List Bool) (list other : List ℕ) (at place : ℕ) : Type 0 where
  pub within : at ≤ length list
  pub other_within : place ≤ length other
  pub same : (column : List ℕ) → AreFlags column flags → filter (λ d. is_in d column) (drop at list) ≡ filter (λ d. is_in d column) (drop place other) →
      filter (λ d. is_in d column) list ≡ filter (λ d. is_in d column) other

pub same_so_far : (flags : List Bool) (list other : List ℕ) → HaveSameFrom flags list other 0 0
same_so_far flags list other = record { within = omega arith; other_within = omega arith; same = λ column f h. h }

pub both_ended : (flags : List Bool) (list other : List ℕ) (at place next next_place : ℕ) → IsNextSet flags list at next → IsNextSet flags other place next_place →
    next ≡ length list → next_place ≡ length other → HaveSameFrom flags list other at place → HaveSameCommon flags list other
both_ended flags list other at place next next_place a b e k h column f =
    let p : ℕ → Bool = λ d. is_in d column in
    h.same column f
    (a.skipped column f
    ∙ (ap (filter p) (drop_all next list (omega (arith, e)))
    ∙ (sym (ap (filter p) (drop_all next_place other (omega (arith, k)))) ∙ sym (b.skipped column f))))

pub both_passed : (flags : List Bool) (list other : List ℕ) (at place next next_place : ℕ) → IsNextSet flags list at next → IsNextSet flags other place next_place →
    next < length list → next_place < length other → slice_index_or list next 0 ≡ slice_index_or other next_place 0 → HaveSameFrom flags list other at place →
    HaveSameFrom flags list other (next + 1) (next_place + 1)
both_passed flags list other at place next next_place a b e k same h = record {
  within = omega arith;
  other_within = omega arith;
  same = λ column f rest.
      let p : ℕ → Bool = λ d. is_in d column in
      let x : ℕ = slice_index_or list next 0 in
      let y : ℕ = slice_index_or other next_place 0 in
      h.same column f
      (a.skipped column f
      ∙ (keep_one flags list next x (slice_get-get_or list next 0 e) (a.set e) column f
      ∙ (ap (λ z. z ∷ filter p (drop (next + 1) list)) same
      ∙ (ap (λ ys. y ∷ ys) rest
      ∙ (sym (keep_one flags other next_place y (slice_get-get_or other next_place 0 k) (b.set k) column f) ∙ sym (b.skipped column f))))));
}

-- the first of a list is not there, and the others are the other list
pub first_left_out : (flags : List Bool) (x : ℕ) (list other : List ℕ) → ((column : List ℕ) → AreFlags column flags → is_in x column ≡ false) → list ≡ other →
    (column : List ℕ) → AreFlags column flags → filter (λ d. is_in d column) (x ∷ list) ≡ filter (λ d. is_in d column) other
first_left_out flags x list other unset same column f =
    kept_or_not (λ d. is_in d column) false x list (unset column f) ∙ ap (filter (λ d. is_in d column)) same

pub left_out : (flags : List Bool) (list other : List ℕ) → 1 ≤ length list → ((column : List ℕ) → AreFlags column flags → is_in (get_or list 0 0) column ≡ false) →
    drop 1 list ≡ other → (column : List ℕ) → AreFlags column flags → filter (λ d. is_in d column) list ≡ filter (λ d. is_in d column) other
left_out flags [] other some unset same column f = absurd (omega (arith, some))
left_out flags (x ∷ list) other some unset same column f = first_left_out flags x list other unset same column f

all_taken : (xs : List ℕ) → take (length xs) xs ≡ xs
all_taken [] = refl
all_taken (x ∷ xs) = ap (λ ys. x ∷ ys) (all_taken xs)

-- the rest of a list behind its first one
pub rest_whole : (xs : List ℕ) → 1 ≤ length xs → take (length xs - 1) (drop 1 xs) ≡ drop 1 xs
rest_whole [] h = absurd (omega (arith, h))
rest_whole (x ∷ xs) h = let left : length (x ∷ xs) - 1 ≡ length xs = omega arith in ap (λ n. take n xs) left ∙ all_taken xs
