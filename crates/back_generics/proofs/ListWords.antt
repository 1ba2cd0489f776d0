-- **The words of the conses of a list**: pointers, of which no two are the same, and behind the last one the word of what is there.
use Rattle.std.proofs.Common.{◌≡◌, ◌⊎◌, inl, inr, ℕ, suc, ◌+◌, ◌-◌, ◌*◌, ◌%◌, ◌<◌, ◌≤◌, List, [], ◌∷◌, length, Some, refl, sym, ap, ◌∙◌, arith}
use Rattle.std.specs.Prelude.{◌/◌, slice_get, map}
use Rattle.std.proofs.lemmas.Bool.{cases_eq, ne_eqb}
use Rattle.base.specs.AllOf.{AllOf}
use Rattle.lang_meaning.specs.declared.program.ProgramRows.{ProgramRows}
use Rattle.lang_meaning.specs.Objects.{Object, cons, string, vector, instance, function, closure, generic_function, class_object, input_stream, output_stream, fresh_symbol}
use Rattle.lang_meaning.specs.State as meaning
use Rattle.lang_meaning.specs.Values.{Value, integer, character, symbol, nil, object}
use Rattle.mid_code.specs.Arena.{Arena, word_at, with_word}
use Rattle.mid_code.specs.State.{MidState}
use Rattle.mid_arena.specs.Places.{Spot, Places, of_object, spot_of, word_of, WordsOf}
use Rattle.mid_arena.specs.Represents.{Represents}
use Rattle.mid_arena.specs.Standing.{Apart, in_front, behind}
use Rattle.mid_arena.specs.Tags.{cons_tag, tag_of}
use Rattle.mid_arena.proofs.Arguments.{object_found, object_there, tag_told, value_tag, tag_in}
use Rattle.mid_arena.proofs.Keeping.{pointer_tells}
use Rattle.mid_arena.proofs.Growing.{spot_below}
use Rattle.mid_arena.proofs.Memory.{word_elsewhere}
use Rattle.back_generics.proofs.Numbers.{IsNew, AreDifferent, no_more}
use Rattle.back_generics.proofs.Spreads.{Path, numbers, cars, IsAmong, IsCons}

-- the first of words, or what is behind them
abbrev pub first_of : List ℕ → ℕ → ℕ
first_of [] u = u
first_of (x ∷ xs) u = x

-- a cons with the words of its parts
pub record ConsWords (a : Arena) (x car cdr : ℕ) : Type 0 where
  pub at : ℕ
  pub here : x ≡ at + 1
  pub aligned : at % 4 ≡ 0
  pub low : at + 8 ≤ a.heap_to
  pub first : word_at a at ≡ Some car
  pub second : word_at a (at + 4) ≡ Some cdr

-- conses one after another
abbrev pub ConsesAt : Arena → List ℕ → List ℕ → ℕ → Type 0
ConsesAt a [] [] u = Unit {0}
ConsesAt a [] (c ∷ cs) u = ⊥
ConsesAt a (x ∷ xs) [] u = ⊥
ConsesAt a (x ∷ xs) (c ∷ cs) u = ConsWords a x c (first_of xs u) × ConsesAt a xs cs u

abbrev pub PointTo : Places → List ℕ → List ℕ → Type 0
PointTo places [] [] = Unit {0}
PointTo places [] (n ∷ ns) = ⊥
PointTo places (x ∷ xs) [] = ⊥
PointTo places (x ∷ xs) (n ∷ ns) = (word_of places (object n) ≡ Some x) × PointTo places xs ns

pub record ListWords (places : Places) (a : Arena) (cells : List (ℕ × Value)) (last : Value) (x : ℕ) : Type 0 where
  pub words : List ℕ
  pub car_words : List ℕ
  pub behind : ℕ
  pub first : x ≡ first_of words behind
  pub conses : ConsesAt a words car_words behind
  pub of_cars : WordsOf places (cars cells) car_words
  pub of_last : word_of places last ≡ Some behind
  pub pointers : PointTo places words (numbers cells)
  pub many : length words ≡ length cells

module _ (names : List (List ℕ)) (program : ProgramRows) (places : Places) (z : meaning.State) (y : MidState) (r : Represents names program places z y) where
  pub list_words : (cells : List (ℕ × Value)) (v last : Value) (x : ℕ) → Path z cells v last → word_of places v ≡ Some x → ListWords places y.arena cells last x
  list_words [] v last x path is = record {
    words = [];
    car_words = [];
    behind = x;
    first = refl;
    conses = tt;
    of_cars = tt;
    of_last = ap (word_of places) (sym path) ∙ is;
    pointers = tt;
    many = refl;
  }
  list_words (c ∷ cs) v last x path is =
      let it = object_found names program places z y r v x (cons c.1 path.0) is path.2 in
      let rest = list_words cs path.0 last it.stands.cdr.word path.3 it.stands.cdr.of_value in
      let size = it.stands.size.words in
      let at = it.word in
      record {
        words = x ∷ rest.words;
        car_words = it.stands.car.word ∷ rest.car_words;
        behind = rest.behind;
        first = refl;
        conses = (
          record {
            at = it.spot.address;
            here = at;
            aligned = it.spot_stands.aligned;
            low = let below = spot_below r.arena it.spot_stands in omega (arith, below, size);
            first = it.stands.car.stands;
            second = it.stands.cdr.stands ∙ ap (λ n. Some n) rest.first;
          },
          rest.conses,
        );
        of_cars = (it.stands.car.of_value, rest.of_cars);
        of_last = rest.of_last;
        pointers = (ap (word_of places) (sym path.1) ∙ is, rest.pointers);
        many = ap (λ n. suc n) rest.many;
      }

  -- one word is of one object
  pub one_object : (m n x : ℕ) → word_of places (object m) ≡ Some x → word_of places (object n) ≡ Some x → m ≡ n
  one_object m n x e f = by (cases_eq m n)
    where
      by : (m ≡ n) ⊎ (m ≡ n → ⊥) → m ≡ n
      by (inl same) = same
      by (inr differ) =
          let p = pointer_tells (spot_of places (of_object m)) x e in
          let q = pointer_tells (spot_of places (of_object n)) x f in
          let s = r.spots (of_object m) p.spot p.found in
          let t = r.spots (of_object n) q.spot q.found in
          absurd (apart (r.apart (of_object m) (of_object n) p.spot q.spot (ne_eqb m n differ) p.found q.found) p.word q.word s.aligned t.aligned s.some t.some s.tag t.tag)
        where
          apart : {s t : Spot} → Apart s t → x ≡ s.address + s.tag → x ≡ t.address + t.tag → s.address % 4 ≡ 0 → t.address % 4 ≡ 0 → 1 ≤ s.words → 1 ≤ t.words → s.tag < 4 → t.tag < 4 → ⊥
          apart (in_front h) a b c d some one low high = omega (arith, h, a, b, c, d, some, one, low, high)
          apart (behind h) a b c d some one low high = omega (arith, h, a, b, c, d, some, one, low, high)

  -- another one than those of other objects
  new_word : (n x : ℕ) (xs ns : List ℕ) → word_of places (object n) ≡ Some x → PointTo places xs ns → IsNew n ns → IsNew x xs
  new_word n x [] [] is point new = tt
  new_word n x [] (m ∷ ms) is point new = absurd point
  new_word n x (u ∷ us) [] is point new = absurd point
  new_word n x (u ∷ us) (m ∷ ms) is point new = ((λ same. new.0 (one_object n m u (is ∙ ap (λ w. Some w) same) point.0)), new_word n x us ms is point.1 new.1)

  pub different_words : (xs ns : List ℕ) → PointTo places xs ns → AreDifferent ns → AreDifferent xs
  different_words [] [] point different = tt
  different_words [] (n ∷ ns) point different = absurd point
  different_words (x ∷ xs) [] point different = absurd point
  different_words (x ∷ xs) (n ∷ ns) point different = (new_word n x xs ns point.0 point.1 different.0, different_words xs ns point.1 different.1)

  -- the word of one that was passed
  pub passed_word : (n x : ℕ) (xs ns : List ℕ) → word_of places (object n) ≡ Some x → PointTo places xs ns → IsAmong n ns → IsAmong x xs
  passed_word n x [] [] is point among = absurd among
  passed_word n x [] (m ∷ ms) is point among = absurd point
  passed_word n x (u ∷ us) [] is point among = absurd point
  passed_word n x (u ∷ us) (m ∷ ms) is point (inl same) = inl (cc (is, point.0, ap (λ k. word_of places (object k)) same))
  passed_word n x (u ∷ us) (m ∷ ms) is point (inr among) = inr (passed_word n x us ms is point.1 among)

  -- the word of what is no cons has another tag
  pub other_tag : (v : Value) (x : ℕ) → word_of places v ≡ Some x → (IsCons z v → ⊥) → (x % 4 ≡ cons_tag) → ⊥
  other_tag v x is other tag = by v is (λ c. other c) (sym (tag_told names program places z y r v x is) ∙ tag)
    where
      stored : (i : ℕ) (o : Object) → slice_get z.store i ≡ Some o → tag_of o ≡ cons_tag → (IsCons z (object i) → ⊥) → ⊥
      stored i (cons a d) e t none = none (a, d, e)
      stored i (string b) e t none = absurd (cc t)
      stored i (vector b) e t none = absurd (cc t)
      stored i (instance b c d) e t none = absurd (cc t)
      stored i (function b) e t none = absurd (cc t)
      stored i (closure b c d e') e t none = absurd (cc t)
      stored i (generic_function b) e t none = absurd (cc t)
      stored i (class_object b) e t none = absurd (cc t)
      stored i input_stream e t none = absurd (cc t)
      stored i output_stream e t none = absurd (cc t)
      stored i (fresh_symbol b) e t none = absurd (cc t)

      by : (u : Value) → word_of places u ≡ Some x → (IsCons z u → ⊥) → value_tag z u ≡ cons_tag → ⊥
      by (integer n) e none t = absurd (cc t)
      by (character n) e none t = absurd (cc t)
      by (symbol n) e none t = absurd (cc t)
      by nil e none t = absurd (cc t)
      by (object i) e none t =
          let there = object_there names program places z y r i x e in
          stored i there.one there.stored (sym (ap tag_in there.stored) ∙ t) none

-- ---- there are fewer conses than words of the memory

abbrev word_numbers : List ℕ → List ℕ
word_numbers xs = map (λ x. x / 4) xs

numbers_new : (a : Arena) (x : ℕ) (xs cs : List ℕ) (u : ℕ) → x % 4 ≡ 1 → ConsesAt a xs cs u → IsNew x xs → IsNew (x / 4) (word_numbers xs)
numbers_new a x [] cs u tag conses new = tt
numbers_new a x (y ∷ ys) [] u tag conses new = absurd conses
numbers_new a x (y ∷ ys) (c ∷ cs) u tag conses new =
    ((λ same. new.0 (let here = conses.0.here in let aligned = conses.0.aligned in omega (arith, same, tag, here, aligned))), numbers_new a x ys cs u tag conses.1 new.1)

numbers_different : (a : Arena) (xs cs : List ℕ) (u : ℕ) → ConsesAt a xs cs u → AreDifferent xs → AreDifferent (word_numbers xs)
numbers_different a [] cs u conses different = tt
numbers_different a (x ∷ xs) [] u conses different = absurd conses
numbers_different a (x ∷ xs) (c ∷ cs) u conses different =
    (numbers_new a x xs cs u (let here = conses.0.here in let aligned = conses.0.aligned in omega (arith, here, aligned)) conses.1 different.0, numbers_different a xs cs u conses.1 different.1)

numbers_low : (a : Arena) (n : ℕ) (xs cs : List ℕ) (u : ℕ) → a.heap_to ≤ 4 * n → ConsesAt a xs cs u → AllOf (λ x. x < n - 1) (word_numbers xs)
numbers_low a n [] cs u top conses = tt
numbers_low a n (x ∷ xs) [] u top conses = absurd conses
numbers_low a n (x ∷ xs) (c ∷ cs) u top conses = (let low = conses.0.low in let here = conses.0.here in omega (arith, low, here, top), numbers_low a n xs cs u top conses.1)

all_numbers : (xs : List ℕ) → length (word_numbers xs) ≡ length xs
all_numbers [] = refl
all_numbers (x ∷ xs) = ap (λ n. suc n) (all_numbers xs)

pub fewer_conses : (a : Arena) (n : ℕ) (xs cs : List ℕ) (u : ℕ) → a.heap_to ≤ 4 * n → ConsesAt a xs cs u → AreDifferent xs → length xs ≤ n - 1
fewer_conses a n xs cs u top conses different =
    let few = no_more (n - 1) (word_numbers xs) (numbers_different a xs cs u conses different) (numbers_low a n xs cs u top conses) in
    let many = all_numbers xs in
    omega (arith, few, many)

-- ---- words that are stored behind the heap do not change them

pub conses_stay : (a : Arena) (to w : ℕ) (xs cs : List ℕ) (u : ℕ) → to % 4 ≡ 0 → a.heap_to ≤ to → ConsesAt a xs cs u → ConsesAt (with_word to w a) xs cs u
conses_stay a to w [] [] u even high h = tt
conses_stay a to w [] (c ∷ cs) u even high h = absurd h
conses_stay a to w (x ∷ xs) [] u even high h = absurd h
conses_stay a to w (x ∷ xs) (c ∷ cs) u even high h =
    let low = h.0.low in (
      record {
        at = h.0.at;
        here = h.0.here;
        aligned = h.0.aligned;
        low = h.0.low;
        first = word_elsewhere a to w h.0.at even (ne_eqb to h.0.at (λ e. omega (arith, e, low, high))) ∙ h.0.first;
        second = word_elsewhere a to w (h.0.at + 4) even (ne_eqb to (h.0.at + 4) (λ e. omega (arith, e, low, high))) ∙ h.0.second;
      },
      conses_stay a to w xs cs u even high h.1,
    )

-- so it is where an arena grew
pub conses_kept : (a b : Arena) (xs cs : List ℕ) (u : ℕ) → ((x : ℕ) → x < a.heap_to → word_at b x ≡ word_at a x) → b.heap_to ≡ a.heap_to → ConsesAt a xs cs u → ConsesAt b xs cs u
conses_kept a b [] [] u same to h = tt
conses_kept a b [] (c ∷ cs) u same to h = absurd h
conses_kept a b (x ∷ xs) [] u same to h = absurd h
conses_kept a b (x ∷ xs) (c ∷ cs) u same to h =
    let low = h.0.low in (
      record {
        at = h.0.at;
        here = h.0.here;
        aligned = h.0.aligned;
        low = omega (arith, low, to);
        first = same h.0.at (omega (arith, low)) ∙ h.0.first;
        second = same (h.0.at + 4) (omega (arith, low)) ∙ h.0.second;
      },
      conses_kept a b xs cs u same to h.1,
    )
