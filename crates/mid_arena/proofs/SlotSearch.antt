-- The search for a slot by its name: what the loop comes to, and the place of a slot beside what the meaning says of it.
use Rattle.std.proofs.Common.{◌≡◌, ℕ, zero, suc, ◌+◌, ◌*◌, ◌^◌, ◌<◌, ◌≤◌, pos, Bool, true, false, List, [], ◌∷◌, ◌++◌, length, Option, Some, None, refl, sym, ap, ◌∙◌, arith}
use Rattle.std.specs.Prelude.{◌==◌, not, slice_get}
use Rattle.std.specs.List.{position_or_len}
use Rattle.std.specs.Str.{bytes_eq}
use Rattle.std.proofs.lemmas.List.Sums.{prefix_len-le-length}
use Rattle.std.proofs.lemmas.Slice.Eq.{bytes_eq-Decides}
use Rattle.lang_meaning.specs.declared.program.ProgramRows.{ProgramRows}
use Rattle.lang_meaning.specs.declared.program.SlotRow.{SlotRow}
use Rattle.lang_meaning.specs.Lookup.{text}
use Rattle.lang_meaning.specs.Values.{Value, integer, character, symbol, named, unnamed, nil, object, same}
use Rattle.lang_meaning.specs.Objects.{Object, fresh_symbol}
use Rattle.lang_meaning.specs.State as meaning
use Rattle.lang_meaning.specs.Primitives.{Spelt, by_name, by_serial, fresh_in, as_symbol, is_slot}
use Rattle.mid_code.specs.declared.program.MidProcedure.{MidProcedure}
use Rattle.mid_code.specs.declared.operation.Arithmetic.TheVariants as which
use Rattle.mid_code.specs.declared.operation.Comparison.TheVariants.{Equal}
use Rattle.base.specs.Arithmetic.{sum32}
use Rattle.mid_code.specs.Arena.{word_at}
use Rattle.mid_code.specs.MidCode.{MidStep}
use Rattle.mid_code.specs.State.{Registers, MidState, MidOutcome, falls, returns, ends}
use Rattle.mid_code.specs.Meaning.{Task}
use Rattle.mid_arena.specs.Places.{Places, of_symbol, spot_of, word_of}
use Rattle.mid_arena.specs.FixedWords.{nil_text}
use Rattle.mid_arena.specs.Represents.{Represents}
use Rattle.mid_arena.specs.Steps as steps
use Rattle.mid_arena.specs.Steps.{steps_of}
use Rattle.mid_arena.proofs.Running.{StepsTo, turning, none_left, and_then, and_ends, constant_falls, compute_known}
use Rattle.mid_arena.proofs.Running.{load_falls, return_ends, choose_first_ends, choose_second_falls, address_here, repeat_falls, repeat_ends, repeat_turn}
use Rattle.mid_arena.proofs.Arguments.{symbol_there}
use Rattle.mid_arena.proofs.Sameness.{same_value_same_word}
use Rattle.mid_arena.proofs.Doing.{paid}
use Rattle.std.proofs.lemmas.Bool.{lt-ltb, le-ltb}
use Rattle.mid_arena.proofs.WordFacts.{sum_fits}

-- ---- places

module _ {X : Type 0} (p : X → Bool) where
  position_here : (x : X) (xs : List X) → p x ≡ true → position_or_len p (x ∷ xs) ≡ 0
  position_here x xs e = rw e refl

  position_later : (x : X) (xs : List X) → p x ≡ false → position_or_len p (x ∷ xs) ≡ suc (position_or_len p xs)
  position_later x xs e = rw e (omega arith)

  pub position_at_most : (xs : List X) → position_or_len p xs ≤ length xs
  position_at_most xs = prefix_len-le-length (λ x. not (p x)) xs

-- ---- the loop

abbrev pub search_slot : MidStep
search_slot =
    steps.while_below 5 7 (steps.load 4 5 (pos 0) ∷ steps.return_if (steps.comparing Equal 4 1) 3 ∷ steps.compute_by 5 which.Add 5 12 ++ steps.compute_by 3 which.Add 3 4)

module _ (procedures : List MidProcedure) (below : Task → MidState → MidOutcome) (y : MidState) (x : ℕ) (p : SlotRow → Bool) where
  -- the word at an address is the one that is sought exactly where the row passes
  pub record NameAt (address : ℕ) (row : SlotRow) : Type 0 where
    pub word : ℕ
    pub stands : word_at y.arena address ≡ Some word
    pub tells : (word == x) ≡ p row

  -- what the search through rows comes to, of which the first one has that number: it ends with the place, or falls out
  pub data Searched (n : ℕ) (rows : List SlotRow) (i k : ℕ) (rs : Registers) : Type 0 where
    found :
        (j k' : ℕ) (rs' : Registers) → position_or_len p rows ≡ j → j < length rows → k' ≤ k + 70 * j + 50
        → StepsTo (turning procedures below n) search_slot rs (paid y k) (ends (returns (4 * (i + j))) rs' (paid y k')) → Searched n rows i k rs
    missed :
        (k' : ℕ) (rs' : Registers) → position_or_len p rows ≡ length rows → length rs' ≡ 8 → k' ≤ k + 70 * length rows + 12
        → StepsTo (turning procedures below n) search_slot rs (paid y k) (ends falls rs' (paid y k')) → Searched n rows i k rs

  abbrev searching : (r0 r2 r4 r6 : Option ℕ) → (i a e : ℕ) → Registers
  searching r0 r2 r4 r6 i a e = r0 ∷ Some x ∷ r2 ∷ Some (4 * i) ∷ r4 ∷ Some a ∷ r6 ∷ Some e ∷ []

  module _ (r0 r2 r4 r6 : Option ℕ) (row : SlotRow) (rows : List SlotRow) (n i k a e : ℕ) (at : NameAt a row) (more : a < e) (low : e < 2 ^ 27) (few : i + length rows < 2 ^ 28) where
    -- the first row passes
    search_here : p row ≡ true → Searched n (row ∷ rows) i k (searching r0 r2 r4 r6 i a e)
    search_here passes =
        found 0 (k + 12 + 8 + 12 + 14) (searching r0 r2 (Some at.word) r6 i a e) (position_here p row rows passes) (omega arith) (omega arith)
        (let ends_so :
        StepsTo (turning procedures below n) search_slot (searching r0 r2 r4 r6 i a e) (paid y k)
        (ends (returns (4 * i)) (searching r0 r2 (Some at.word) r6 i a e) (paid y (k + 12 + 8 + 12 + 14))) =
        repeat_ends tt none_left refl refl (lt-ltb a e more)
        (and_then (load_falls refl (address_here a (omega arith)) at.stands)
        (and_ends tt (choose_first_ends tt refl refl (at.tells ∙ passes) (and_ends tt (return_ends refl)))))
        in
        let same : i + 0 ≡ i = omega arith in
        rw same ends_so)

    -- it does not, and the loop goes on
    turn :
        {r : MidOutcome} → p row ≡ false
        → StepsTo (turning procedures below n) search_slot (searching r0 r2 (Some at.word) (Some 4) (i + 1) (a + 12) e) (paid y (k + 12 + 8 + 12 + 2 + 6 + 10 + 6 + 10 + 2)) r
        → StepsTo (turning procedures below (suc n)) search_slot (searching r0 r2 r4 r6 i a e) (paid y k) r
    turn fails rest =
        repeat_turn procedures below n none_left refl refl (lt-ltb a e more)
        (and_then (load_falls refl (address_here a (omega arith)) at.stands)
        (and_then (choose_second_falls refl refl (at.tells ∙ fails) none_left)
        (and_then constant_falls
        (and_then (compute_known refl refl (sum_fits a 12 (omega arith)))
        (and_then constant_falls
        (and_then (compute_known refl refl (let next : sum32 (4 * i) 4 ≡ 4 * (i + 1) = omega arith in next))
        none_left))))))
        rest

    search_on :
        p row ≡ false → Searched n rows (i + 1) (k + 12 + 8 + 12 + 2 + 6 + 10 + 6 + 10 + 2) (searching r0 r2 (Some at.word) (Some 4) (i + 1) (a + 12) e)
        → Searched (suc n) (row ∷ rows) i k (searching r0 r2 r4 r6 i a e)
    search_on fails (found j k' rs' place inside cost steps) =
        found (suc j) k' rs' (position_later p row rows fails ∙ ap (λ m. suc m) place) (omega arith) (omega (arith, cost))
        (let same : i + 1 + j ≡ i + suc j = omega arith in rw same at (turn fails steps))
    search_on fails (missed k' rs' place size cost steps) =
        missed k' rs' (position_later p row rows fails ∙ ap (λ m. suc m) place) size (omega (arith, cost)) (turn fails steps)

  -- the rows stand one after another, each with three words
  pub search :
      (rows : List SlotRow) (n i k a e : ℕ) (r0 r2 r4 r6 : Option ℕ) → ((j : ℕ) (row : SlotRow) → slice_get rows j ≡ Some row → NameAt (a + 12 * j) row)
      → e ≡ a + 12 * length rows → e < 2 ^ 27 → i + length rows < 2 ^ 28 → position_or_len p rows ≤ n → Searched n rows i k (searching r0 r2 r4 r6 i a e)
  search [] n i k a e r0 r2 r4 r6 names end low few turns =
      missed (k + 12) (searching r0 r2 r4 r6 i a e) refl refl (omega arith) (repeat_falls none_left refl refl (le-ltb a e (omega arith)))
  search (row ∷ rows) n i k a e r0 r2 r4 r6 names end low few turns =
      by (p row) refl n turns
      (λ m enough.
      search rows m (i + 1) (k + 12 + 8 + 12 + 2 + 6 + 10 + 6 + 10 + 2) (a + 12) e r0 r2 (Some here.word) (Some 4) behind (omega arith) low (omega arith) enough)
    where
      here : NameAt a row
      here = let same : a + 12 * 0 ≡ a = omega arith in rw same at (names 0 row refl)

      behind : (j : ℕ) (one : SlotRow) → slice_get rows j ≡ Some one → NameAt (a + 12 + 12 * j) one
      behind j one e = let same : a + 12 * suc j ≡ a + 12 + 12 * j = omega arith in rw same at (names (suc j) one e)

      by :
          (b : Bool) → p row ≡ b → (n : ℕ) → position_or_len p (row ∷ rows) ≤ n
          → ((m : ℕ) → position_or_len p rows ≤ m
          → Searched m rows (i + 1) (k + 12 + 8 + 12 + 2 + 6 + 10 + 6 + 10 + 2) (searching r0 r2 (Some here.word) (Some 4) (i + 1) (a + 12) e))
          → Searched n (row ∷ rows) i k (searching r0 r2 r4 r6 i a e)
      by true passes n turns more = search_here r0 r2 r4 r6 row rows n i k a e here (omega arith) low (omega arith) passes
      by false fails zero turns more = absurd (omega (arith, position_later p row rows fails, turns))
      by false fails (suc n) turns more =
          search_on r0 r2 r4 r6 row rows n i k a e here (omega arith) low (omega arith) fails (more n (omega (arith, position_later p row rows fails, turns)))

-- ---- names of slots and symbols

bytes_turned : (a b : List ℕ) → bytes_eq a b ≡ bytes_eq b a
bytes_turned a b = by (bytes_eq a b) (bytes_eq b a) refl refl
  where
    by : (s t : Bool) → bytes_eq a b ≡ s → bytes_eq b a ≡ t → bytes_eq a b ≡ bytes_eq b a
    by true true e f = e ∙ sym f
    by false false e f = e ∙ sym f
    by true false e f = let same : a ≡ b = (bytes_eq-Decides a b).0 e in cc
    by false true e f = let same : b ≡ a = (bytes_eq-Decides b a).0 f in cc

module _ (names : List (List ℕ)) (program : ProgramRows) (places : Places) (z : meaning.State) (y : MidState) (r : Represents names program places z y) where
  -- a symbol is the name of a slot exactly where it is that symbol with a text
  same_name :
      (u : Value) (s : Spelt) (row : SlotRow) (word : ℕ) → as_symbol z u ≡ Some s → word_of places (symbol (named (text names row.name.0))) ≡ Some word
      → same (symbol (named (text names row.name.0))) u ≡ is_slot names s row
  same_name (integer n) s row word e f = absurd (cc e)
  same_name (character c) s row word e f = absurd (cc e)
  same_name (symbol (named name)) s row word e f =
      let spelt : by_name name ≡ s = cc e in
      bytes_turned (text names row.name.0) name ∙ ap (λ s. is_slot names s row) spelt
  same_name (symbol (unnamed expansion serial)) s row word e f =
      let spelt : by_serial serial ≡ s = cc e in
      ap (λ s. is_slot names s row) spelt
  same_name nil s row word e f =
      let spelt : by_name nil_text ≡ s = cc e in
      sym (no_nil (bytes_eq nil_text (text names row.name.0)) refl) ∙ ap (λ s. is_slot names s row) spelt
    where
      -- no slot has the name of nil
      no_nil : (b : Bool) → bytes_eq nil_text (text names row.name.0) ≡ b → bytes_eq nil_text (text names row.name.0) ≡ false
      no_nil false e = e
      no_nil true e =
          let it : nil_text ≡ text names row.name.0 = (bytes_eq-Decides nil_text (text names row.name.0)).0 e in
          let there = symbol_there names program places z y r (named (text names row.name.0)) word f in
          let none : spot_of places (of_symbol (named (text names row.name.0))) ≡ None = rw it at r.no_nil in
          absurd (cc (none, there.found))
  same_name (object i) s row word e f = by (slice_get z.store i) e
    where
      by : (o : Option Object) → fresh_in o ≡ Some s → false ≡ is_slot names s row
      by (Some (fresh_symbol serial)) e =
          let spelt : by_serial serial ≡ s = cc e in
          ap (λ s. is_slot names s row) spelt
      by o e = absurd (cc e)

  -- so its word tells
  pub slot_told :
      (u : Value) (x : ℕ) (s : Spelt) (row : SlotRow) (word : ℕ) → word_of places u ≡ Some x → as_symbol z u ≡ Some s
      → word_of places (symbol (named (text names row.name.0))) ≡ Some word → (word == x) ≡ is_slot names s row
  slot_told u x s row word u_word spelt name =
      same_value_same_word names program places z y r (symbol (named (text names row.name.0))) u word x name u_word ∙ same_name u s row word spelt name
