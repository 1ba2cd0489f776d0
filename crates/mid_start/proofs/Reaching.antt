-- All objects of a datum are reached from its value: where this has a word, each of them has one.
use Rattle.std.proofs.Common.{◌≡◌, ℕ, suc, ◌+◌, ◌-◌, ◌*◌, ◌<◌, ◌≤◌, List, [], ◌∷◌, ◌++◌, length, Some, ⊎_elim, sym, ◌∙◌, ap, subst, length-append, arith}
use Rattle.std.specs.Prelude.{slice_get, slice_index_or}
use Rattle.std.proofs.lemmas.Bool.{cases_lt}
use Rattle.base.specs.Data as datum
use Rattle.base.specs.Names.{slice_get-front, slice_get-behind}
use Rattle.lang_meaning.specs.declared.program.ProgramRows.{ProgramRows}
use Rattle.lang_meaning.specs.Values.{Value, nil, object}
use Rattle.lang_meaning.specs.Objects.{Object, cons, string, vector}
use Rattle.lang_meaning.specs.Literals.{Laid, lay, lay_content, lay_items, lay_list, lay_tail}
use Rattle.mid_code.specs.Arena.{Arena}
use Rattle.mid_arena.specs.Places.{Places, of_object, spot_of, word_of}
use Rattle.mid_arena.specs.Standing.{ValueAt, ValuesAt}
use Rattle.mid_arena.specs.Layouts.{ConsAt, VectorAt}
use Rattle.mid_arena.proofs.Keeping.{PlacesExtend, pointer_tells}
use Rattle.mid_start.specs.declared.words.ArenaWords.{ArenaWords}
use Rattle.mid_start.specs.LaidArena.{arena_of}
use Rattle.mid_start.specs.LaidWell.{LaidWell}
use Rattle.mid_start.proofs.Lists.{item_behind}
use Rattle.mid_start.specs.Making.{HasWord, HaveWords}

-- ---- objects with words

pub no_words : (places : Places) (from : ℕ) → HaveWords places from 0
no_words places from = record { each = λ i h. absurd (omega arith) }

pub one_word : (places : Places) (from w : ℕ) → word_of places (object from) ≡ Some w → HaveWords places from 1
one_word places from w e = record {
  each = λ i h.
      let same : from ≡ from + i = omega arith in
      record { word = w; of_value = ap (λ n. word_of places (object n)) (sym same) ∙ e };
}

pub words_both : (places : Places) (from m n : ℕ) → HaveWords places from m → HaveWords places (from + m) n → HaveWords places from (m + n)
words_both places from m n g h = record {
  each = λ i low.
      ⊎_elim
      (λ (first : i < m). g.each i first)
      (λ (later : m ≤ i).
      let same : from + m + (i - m) ≡ from + i = omega arith in
      subst (λ k. HasWord places (object k)) same (h.each (i - m) (omega arith)))
      (cases_lt i m);
}

pub words_kept : (before after : Places) → PlacesExtend before after → (from n : ℕ) → HaveWords before from n → HaveWords after from n
words_kept before after more from n h = record {
  each = λ i low. let old = h.each i low in record { word = old.word; of_value = more.word (object (from + i)) old.word old.of_value };
}

-- ---- objects in the store from a number on

pub record Lies (store : List Object) (n : ℕ) (os : List Object) : Type 0 where
  pub item : (j : ℕ) (o : Object) → slice_get os j ≡ Some o → slice_get store (n + j) ≡ Some o

pub lies_behind : (store os : List Object) → Lies (store ++ os) (length store) os
lies_behind store os = record { item = λ j o e. item_behind store os j ∙ e }

lies_front : (store : List Object) (n : ℕ) (xs ys : List Object) → Lies store n (xs ++ ys) → Lies store n xs
lies_front store n xs ys h = record { item = λ j o e. h.item j o (slice_get-front xs ys j o e) }

lies_back : (store : List Object) (n : ℕ) (xs ys : List Object) → Lies store n (xs ++ ys) → Lies store (n + length xs) ys
lies_back store n xs ys h = record {
  item = λ j o e.
      let same : n + length xs + j ≡ n + (length xs + j) = omega arith in
      ap (slice_get store) same ∙ h.item (length xs + j) o (item_behind xs ys j ∙ e);
}

-- ---- what is reached

abbrev AllHaveWords : Places → List Value → Type 0
AllHaveWords places [] = Unit {0}
AllHaveWords places (v ∷ vs) = HasWord places v × AllHaveWords places vs

values_words : (places : Places) (a : Arena) (address : ℕ) (vs : List Value) → ValuesAt places a address vs → AllHaveWords places vs
values_words places a address [] h = tt
values_words places a address (v ∷ vs) h =
    let first : ValueAt places a (address + 4 * 0) v = h 0 (omega arith) in
    (record { word = first.word; of_value = first.of_value }, values_words places a (address + 4) vs others)
  where
    others : ValuesAt places a (address + 4) vs
    others i low =
        let at : ValueAt places a (address + 4 * suc i) (slice_index_or vs i nil) = h (suc i) (omega arith) in
        let same : address + 4 * suc i ≡ address + 4 + 4 * i = omega arith in
        subst (λ x. ValueAt places a x (slice_index_or vs i nil)) same at

module _ (names : List (List ℕ)) (program : ProgramRows) (places : Places) (store : List Object) (words : ArenaWords) (h : LaidWell names program places store words) where
  -- an object behind its parts, which have words
  behind_parts :
      (n w : ℕ) (parts : List Object) (o : Object) → word_of places (object (n + length parts)) ≡ Some w → HaveWords places n (length parts)
      → HaveWords places n (length (parts ++ o ∷ []))
  behind_parts n w parts o e others =
      let count : length (parts ++ o ∷ []) ≡ length parts + 1 = length-append parts (o ∷ []) in
      rw count (words_both places n (length parts) 1 others (one_word places (n + length parts) w e))

  last_lies : (n : ℕ) (parts : List Object) (o : Object) → Lies store n (parts ++ o ∷ []) → slice_get store (n + length parts) ≡ Some o
  last_lies n parts o lies = lies.item (length parts) o (slice_get-behind parts o)

  mutual
    pub datum_reached :
        (d : datum.Item) (n w : ℕ) → Lies store n (lay names d n).objects → word_of places (lay names d n).value ≡ Some w
        → HaveWords places n (length (lay names d n).objects)
    datum_reached (datum.item p c) n w lies e = content_reached c n w lies e

    content_reached :
        (c : datum.Content) (n w : ℕ) → Lies store n (lay_content names c n).objects → word_of places (lay_content names c n).value ≡ Some w
        → HaveWords places n (length (lay_content names c n).objects)
    content_reached (datum.integer i) n w lies e = no_words places n
    content_reached (datum.character c) n w lies e = no_words places n
    content_reached (datum.symbol s) n w lies e = no_words places n
    content_reached (datum.string bytes) n w lies e = behind_parts n w [] (string bytes) e (no_words places n)
    content_reached (datum.vector ds) n w lies e =
        let parts = lay_items names ds n in
        let p = pointer_tells (spot_of places (of_object (n + length parts.0))) w e in
        let there : VectorAt places (arena_of words) p.spot parts.1 =
        h.objects (n + length parts.0) (vector parts.1) p.spot (last_lies n parts.0 (vector parts.1) lies) p.found in
        behind_parts n w parts.0 (vector parts.1) e
        (items_reached ds n (lies_front store n parts.0 (vector parts.1 ∷ []) lies) (values_words places (arena_of words) (p.spot.address + 8) parts.1 there.values))
    content_reached datum.nil n w lies e = no_words places n
    content_reached (datum.list ds end) n w lies e = list_reached ds (lay_tail names end) (λ m v l f. tail_reached end m v l f) n w lies e

    items_reached :
        (ds : datum.Items) (n : ℕ) → Lies store n (lay_items names ds n).0 → AllHaveWords places (lay_items names ds n).1
        → HaveWords places n (length (lay_items names ds n).0)
    items_reached datum.no_item n lies all = no_words places n
    items_reached (datum.item_and d ds) n lies all =
        let first = lay names d n in
        let others = lay_items names ds (n + length first.objects) in
        let count : length (first.objects ++ others.0) ≡ length first.objects + length others.0 = length-append first.objects others.0 in
        rw count
        (words_both places n (length first.objects) (length others.0)
        (datum_reached d n all.0.word (lies_front store n first.objects others.0 lies) all.0.of_value)
        (items_reached ds (n + length first.objects) (lies_back store n first.objects others.0 lies) all.1))

    list_reached :
        (ds : datum.Items) (end : ℕ → Laid)
        → ((m v : ℕ) → Lies store m (end m).objects → word_of places (end m).value ≡ Some v → HaveWords places m (length (end m).objects))
        → (n w : ℕ) → Lies store n (lay_list names ds end n).objects → word_of places (lay_list names ds end n).value ≡ Some w
        → HaveWords places n (length (lay_list names ds end n).objects)
    list_reached datum.no_item end reached n w lies e = reached n w lies e
    list_reached (datum.item_and d ds) end reached n w lies e =
        let first = lay names d n in
        let others = lay_list names ds end (n + length first.objects) in
        let parts = first.objects ++ others.objects in
        let made = cons first.value others.value in
        let p = pointer_tells (spot_of places (of_object (n + length parts))) w e in
        let there : ConsAt places (arena_of words) p.spot first.value others.value =
        h.objects (n + length parts) made p.spot (last_lies n parts made lies) p.found in
        let both : Lies store n parts = lies_front store n parts (made ∷ []) lies in
        let count : length parts ≡ length first.objects + length others.objects = length-append first.objects others.objects in
        let all : HaveWords places n (length first.objects + length others.objects) =
        words_both places n (length first.objects) (length others.objects)
        (datum_reached d n there.car.word (lies_front store n first.objects others.objects both) there.car.of_value)
        (list_reached ds end reached (n + length first.objects) there.cdr.word (lies_back store n first.objects others.objects both) there.cdr.of_value) in
        behind_parts n w parts made e (rw count all)

    tail_reached :
        (end : datum.Tail) (n w : ℕ) → Lies store n (lay_tail names end n).objects → word_of places (lay_tail names end n).value ≡ Some w
        → HaveWords places n (length (lay_tail names end n).objects)
    tail_reached datum.no_tail n w lies e = no_words places n
    tail_reached (datum.dotted d) n w lies e = datum_reached d n w lies e
