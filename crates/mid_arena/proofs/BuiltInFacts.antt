-- What a represented program says of its classes that are built in: their rows, which of them are conditions, and how many words their instances have.
use Rattle.std.proofs.Common.{◌≡◌, ℕ, zero, suc, ◌+◌, ◌<◌, Bool, true, false, List, [], ◌∷◌, length, Some, refl, sym, ap, ◌∙◌, arith}
use Rattle.std.proofs.lemmas.Option.{slice_get_within}
use Rattle.std.specs.Prelude.{◌==◌, ◌&&◌, not, nat_le, slice_get, slice_index_or, if◌then◌else◌}
use Rattle.std.specs.List.{list_all}
use Rattle.std.specs.Str.{bytes_eq}
use Rattle.std.proofs.lemmas.Bool.{eqb-true}
use Rattle.std.proofs.lemmas.Bool.Decides.{nat_tests}
use Rattle.std.proofs.lemmas.Option.{slice_get-get_or}
use Rattle.std.proofs.lemmas.Slice.Eq.{bytes_eq-Decides}
use Rattle.lang_meaning.specs.declared.program.ProgramRows.{ProgramRows}
use Rattle.lang_meaning.specs.declared.program.ClassRow.{ClassRow}
use Rattle.lang_meaning.specs.BuiltIn.{built_in_precedence, built_in_slots}
use Rattle.lang_meaning.specs.Facts.{is_plain_slot, is_row, begins_with_built_in}
use Rattle.lang_meaning.specs.Lookup.{is_in}
use Rattle.lang_meaning.specs.Objects.{built_in_classes, serious_condition_class}
use Rattle.lang_meaning.specs.Classes.{precedence_of, slots_of, precedence, slots, is_below}
use Rattle.lang_meaning.specs.Primitives.{instance_words}
use Rattle.mid_arena.proofs.Keeping.{words_of_condition}

-- a class stands at its number, with that precedence list and so many slots, and instances of it can be made
pub record RowAt (classes : List ClassRow) (c : ℕ) (above : List ℕ) (count : ℕ) : Type 0 where
  pub row : ClassRow
  pub found : slice_get classes c ≡ Some row
  pub precedence : row.precedence ≡ above
  pub slots : length row.slots ≡ count
  pub concrete : row.abstract_class ≡ false

-- tests that hold together

both : (a b : Bool) → (a && b) ≡ true → (a ≡ true) × (b ≡ true)
both true b h = (refl, h)
both false b h = absurd (cc h)

is_not : (a : Bool) → not a ≡ true → a ≡ false
is_not false h = refl
is_not true h = absurd (cc h)

row_told : (row : ClassRow) (above : List ℕ) (count : ℕ) (cs : List ClassRow) → is_row row above count ≡ true → RowAt (row ∷ cs) 0 above count
row_told row above count cs h =
    let last = both (bytes_eq row.precedence above && length row.slots == count && list_all is_plain_slot row.slots) (not row.abstract_class) h in
    let plain = both (bytes_eq row.precedence above && length row.slots == count) (list_all is_plain_slot row.slots) last.0 in
    let first = both (bytes_eq row.precedence above) (length row.slots == count) plain.0 in
    record {
      row = row;
      found = refl;
      precedence = (bytes_eq-Decides row.precedence above).0 first.0;
      slots = eqb-true (length row.slots) count first.1;
      concrete = is_not row.abstract_class last.1;
    }

-- each class of the lists stands at its number
pub row_at :
    (cs : List ClassRow) (ps : List (List ℕ)) (ns : List ℕ) (c : ℕ) (above : List ℕ) (count : ℕ) → begins_with_built_in cs ps ns ≡ true
    → slice_get ps c ≡ Some above → slice_get ns c ≡ Some count → RowAt cs c above count
row_at cs [] ns c above count h e f = absurd (cc e)
row_at [] (p ∷ ps) ns c above count h e f = absurd (cc h)
row_at (row ∷ cs) (p ∷ ps) [] c above count h e f = absurd (cc h)
row_at (row ∷ cs) (p ∷ ps) (n ∷ ns) zero above count h e f =
    let list : p ≡ above = cc e in
    let number : n ≡ count = cc f in
    row_told row above count cs (ap (λ q. is_row row q count) (sym list) ∙ ap (λ m. is_row row p m) (sym number) ∙ (both (is_row row p n) (begins_with_built_in cs ps ns) h).0)
row_at (row ∷ cs) (p ∷ ps) (n ∷ ns) (suc c) above count h e f =
    let r = row_at cs ps ns c above count (both (is_row row p n) (begins_with_built_in cs ps ns) h).1 e f in
    record { row = r.row; found = r.found; precedence = r.precedence; slots = r.slots; concrete = r.concrete }

-- which lists have the class of conditions: those from that class on
abbrev tells_conditions : ℕ → List (List ℕ) → Bool
tells_conditions i [] = true
tells_conditions i (p ∷ ps) =
    (if nat_le serious_condition_class i then is_in serious_condition_class p else not (is_in serious_condition_class p)) && tells_conditions (i + 1) ps

condition_told :
    (i : ℕ) (ps : List (List ℕ)) (c : ℕ) (p : List ℕ) → tells_conditions i ps ≡ true → slice_get ps c ≡ Some p
    → is_in serious_condition_class p ≡ nat_le serious_condition_class (i + c)
condition_told i [] c p h e = absurd (cc e)
condition_told i (q ∷ ps) zero p h e =
    let same : q ≡ p = cc e in
    let number : i + 0 ≡ i = omega arith in
    ap (is_in serious_condition_class) (sym same)
    ∙ by (nat_le serious_condition_class i) (is_in serious_condition_class q) (both _ (tells_conditions (i + 1) ps) h).0
    ∙ ap (nat_le serious_condition_class) (sym number)
  where
    by : (a b : Bool) → (if a then b else not b) ≡ true → b ≡ a
    by true b h = h
    by false b h = is_not b h
condition_told i (q ∷ ps) (suc c) p h e =
    let number : i + 1 + c ≡ i + suc c = omega arith in
    condition_told (i + 1) ps c p (both _ (tells_conditions (i + 1) ps) h).1 e ∙ ap (nat_le serious_condition_class) number

module _ (program : ProgramRows) (built_in : begins_with_built_in program.classes built_in_precedence built_in_slots ≡ true) where
  -- each class that is built in, by its number
  pub built_in_row : (c : ℕ) → c < built_in_classes → RowAt program.classes c (slice_index_or built_in_precedence c []) (slice_index_or built_in_slots c 0)
  built_in_row c h =
      row_at program.classes built_in_precedence built_in_slots c (slice_index_or built_in_precedence c []) (slice_index_or built_in_slots c 0) built_in
      (slice_get-get_or built_in_precedence c [] h) (slice_get-get_or built_in_slots c 0 h)

  pub built_in_known : (c : ℕ) → c < built_in_classes → c < length program.classes
  built_in_known c h = let at = built_in_row c h in slice_get_within program.classes c at.row at.found

  pub precedence_is : (c : ℕ) → c < built_in_classes → precedence program c ≡ slice_index_or built_in_precedence c []
  precedence_is c h = let r = built_in_row c h in ap precedence_of r.found ∙ r.precedence

  pub slot_count_is : (c : ℕ) → c < built_in_classes → length (slots program c) ≡ slice_index_or built_in_slots c 0
  slot_count_is c h = let r = built_in_row c h in ap (λ o. length (slots_of o)) r.found ∙ r.slots

  -- conditions are the classes from 18 on
  pub condition_from : (c : ℕ) → c < built_in_classes → is_below program c serious_condition_class ≡ nat_le serious_condition_class c
  condition_from c h =
      ap (is_in serious_condition_class) (precedence_is c h)
      ∙ condition_told 0 built_in_precedence c (slice_index_or built_in_precedence c []) refl (slice_get-get_or built_in_precedence c [] h)
      ∙ ap (nat_le serious_condition_class) (from_zero c)
    where
      from_zero : (n : ℕ) → 0 + n ≡ n
      from_zero n = omega arith

  pub is_condition_class : (c : ℕ) → serious_condition_class < suc c → c < built_in_classes → is_below program c serious_condition_class ≡ true
  is_condition_class c low high = condition_from c high ∙ grind (arith, nat_tests)

  pub no_condition_class : (c : ℕ) → c < serious_condition_class → is_below program c serious_condition_class ≡ false
  no_condition_class c low = condition_from c (omega arith) ∙ grind (arith, nat_tests)

  -- so an instance of one of them has one word more
  pub condition_words : (c n : ℕ) → serious_condition_class < suc c → c < built_in_classes → instance_words program c n ≡ 3 + n
  condition_words c n low high = words_of_condition program c n (is_condition_class c low high)
