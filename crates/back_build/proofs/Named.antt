-- Tests of rows, and the names that are there.
use Rattle.std.proofs.Common.{◌≡◌, ℕ, zero, suc, Bool, true, false, ◌&&◌, List, [], ◌∷◌, Some, length, slice_get, refl, sym, ap, subst, ◌∙◌, nat_lt}
use Rattle.std.specs.List.{list_all}
use Rattle.std.specs.Prelude.{◌↔◌, IsTrue}
use Rattle.std.proofs.lemmas.Bool.{ltb-true, lt-ltb}
use Rattle.base.specs.declared.datum.Name.{Name}
use Rattle.base.specs.declared.datum.Symbol.{Symbol}
use Rattle.base.specs.declared.datum.Symbol.TheVariants.{Named, Fresh}
use Rattle.base.specs.Data.{Item, item, Content, integer, character, symbol, string, vector, nil, list}
use Rattle.base.specs.Data.{Items, no_item, item_and, Tail, no_tail, dotted}
use Rattle.base.specs.DataMeasures.{SymbolBelow, NamesBelow, NamesBelowInside, AllNamesBelow, NamesBelowTail}
use Rattle.lang_meaning.specs.declared.program.ProgramRows.{ProgramRows}
use Rattle.lang_meaning.specs.declared.program.SlotRow.{SlotRow}
use Rattle.lang_meaning.specs.declared.program.ClassRow.{ClassRow}
use Rattle.lang_meaning.specs.declared.program.LiteralRow.TheVariants as row
use Rattle.mid_arena.specs.FixedWords.{nil_text}
use Rattle.mid_start.specs.Rows.{NamesThere}
use Rattle.lang_meaning.specs.declared.program.LiteralRow.{LiteralRow}
use Rattle.back_build.specs.Named.{is_slot_named, is_class_named, is_symbol_named, is_named, is_named_inside, are_named, is_tail_named, is_literal_named}

pub first_true : (a b : Bool) → (a && b) ≡ true → a ≡ true
first_true true b h = refl
first_true false b h = h

pub second_true : (a b : Bool) → (a && b) ≡ true → b ≡ true
second_true true b h = h
second_true false b h = absurd (cc h)

all_there : {X : Type 0} (f : X → Bool) (xs : List X) (i : ℕ) (x : X) → list_all f xs ≡ true → slice_get xs i ≡ Some x → f x ≡ true
all_there f [] i x h e = absurd (cc e)
all_there f (y ∷ ys) zero x h e = let same : y ≡ x = cc e in subst (λ z. f z ≡ true) same (first_true (f y) (list_all f ys) h)
all_there f (y ∷ ys) (suc i) x h e = all_there f ys i x (second_true (f y) (list_all f ys) h) e

pub both_true : (a b : Bool) → a ≡ true → b ≡ true → (a && b) ≡ true
both_true true b g h = h
both_true false b g h = absurd (cc g)

-- each item at its place, and so all
all_true : {X : Type 0} (f : X → Bool) (xs : List X) → ((i : ℕ) (x : X) → slice_get xs i ≡ Some x → f x ≡ true) → list_all f xs ≡ true
all_true f [] h = refl
all_true f (x ∷ xs) h = both_true (f x) (list_all f xs) (h 0 x refl) (all_true f xs (λ i y e. h (suc i) y e))

-- the names of data: what is tested of them is what is asked of them

symbol_below : (n : ℕ) (s : Symbol) → is_symbol_named n s ≡ true → SymbolBelow n s
symbol_below n (Named name) h = ltb-true name.0 n h
symbol_below n (Fresh expansion serial) h = tt

symbol_named : (n : ℕ) (s : Symbol) → SymbolBelow n s → is_symbol_named n s ≡ true
symbol_named n (Named name) h = lt-ltb name.0 n h
symbol_named n (Fresh expansion serial) h = refl

mutual
  unfolding is_named NamesBelow

  below : (n : ℕ) (d : Item) → is_named n d ≡ true → NamesBelow n d
  below n (item p c) h = below_inside n c h

  below_inside : (n : ℕ) (c : Content) → is_named_inside n c ≡ true → NamesBelowInside n c
  below_inside n (integer z) h = tt
  below_inside n (character k) h = tt
  below_inside n (symbol s) h = symbol_below n s h
  below_inside n (string bytes) h = tt
  below_inside n (vector ds) h = all_below n ds h
  below_inside n nil h = tt
  below_inside n (list ds t) h =
      (all_below n ds (first_true (are_named n ds) (is_tail_named n t) h), tail_below n t (second_true (are_named n ds) (is_tail_named n t) h))

  all_below : (n : ℕ) (ds : Items) → are_named n ds ≡ true → AllNamesBelow n ds
  all_below n no_item h = tt
  all_below n (item_and d ds) h =
      (below n d (first_true (is_named n d) (are_named n ds) h), all_below n ds (second_true (is_named n d) (are_named n ds) h))

  tail_below : (n : ℕ) (t : Tail) → is_tail_named n t ≡ true → NamesBelowTail n t
  tail_below n no_tail h = tt
  tail_below n (dotted d) h = below n d h

mutual
  unfolding is_named NamesBelow

  named : (n : ℕ) (d : Item) → NamesBelow n d → is_named n d ≡ true
  named n (item p c) h = named_inside n c h

  named_inside : (n : ℕ) (c : Content) → NamesBelowInside n c → is_named_inside n c ≡ true
  named_inside n (integer z) h = refl
  named_inside n (character k) h = refl
  named_inside n (symbol s) h = symbol_named n s h
  named_inside n (string bytes) h = refl
  named_inside n (vector ds) h = all_named n ds h
  named_inside n nil h = refl
  named_inside n (list ds t) h = both_true (are_named n ds) (is_tail_named n t) (all_named n ds h.0) (tail_named n t h.1)

  all_named : (n : ℕ) (ds : Items) → AllNamesBelow n ds → are_named n ds ≡ true
  all_named n no_item h = refl
  all_named n (item_and d ds) h = both_true (is_named n d) (are_named n ds) (named n d h.0) (all_named n ds h.1)

  tail_named : (n : ℕ) (t : Tail) → NamesBelowTail n t → is_tail_named n t ≡ true
  tail_named n no_tail h = refl
  tail_named n (dotted d) h = named n d h

-- the rows of a program

module _ (names : List (List ℕ)) (true_name : Name) (program : ProgramRows) where
  module _ (classes : list_all (is_class_named (length names)) program.classes ≡ true) where
    class_named : (i : ℕ) (c : ClassRow) → slice_get program.classes i ≡ Some c → is_class_named (length names) c ≡ true
    class_named i c e = all_there (is_class_named (length names)) program.classes i c classes e

    slot_named : (i j : ℕ) (c : ClassRow) (s : SlotRow) → slice_get program.classes i ≡ Some c → slice_get c.slots j ≡ Some s → is_slot_named (length names) s ≡ true
    slot_named i j c s e h =
        all_there (is_slot_named (length names)) c.slots j s
        (second_true (nat_lt c.name.0 (length names)) (list_all (is_slot_named (length names)) c.slots) (class_named i c e)) h

  -- names that were tested are there
  pub names_there : slice_get names true_name.0 ≡ Some (116 ∷ []) → ((i : ℕ) → slice_get names i ≡ Some nil_text → ⊥)
      → list_all (is_class_named (length names)) program.classes ≡ true → list_all (is_literal_named (length names)) program.literals ≡ true
      → NamesThere names true_name program
  names_there here no_nil classes literals = record {
    true_text = here;
    no_nil = no_nil;
    classes = λ i c e. ltb-true c.name.0 (length names)
        (first_true (nat_lt c.name.0 (length names)) (list_all (is_slot_named (length names)) c.slots) (class_named classes i c e));
    slots = λ i j c s e h. ltb-true s.name.0 (length names)
        (first_true (nat_lt s.name.0 (length names)) (list_all (λ (a : Name). nat_lt a.0 (length names)) s.initargs) (slot_named classes i j c s e h));
    initargs = λ i j k c s a e h g. ltb-true a.0 (length names)
        (all_there (λ (a : Name). nat_lt a.0 (length names)) s.initargs k a
        (second_true (nat_lt s.name.0 (length names)) (list_all (λ (a : Name). nat_lt a.0 (length names)) s.initargs) (slot_named classes i j c s e h)) g);
    literals = λ i d e. below (length names) d (all_there (is_literal_named (length names)) program.literals i (row.Datum d) literals e);
  }

  -- and names that are there pass the tests
  module _ (h : NamesThere names true_name program) where
    pub classes_pass : list_all (is_class_named (length names)) program.classes ≡ true
    classes_pass =
        all_true (is_class_named (length names)) program.classes
        (λ i c e. both_true (nat_lt c.name.0 (length names)) (list_all (is_slot_named (length names)) c.slots) (lt-ltb c.name.0 (length names) (h.classes i c e))
        (all_true (is_slot_named (length names)) c.slots
        (λ j s f. both_true (nat_lt s.name.0 (length names)) (list_all (λ (a : Name). nat_lt a.0 (length names)) s.initargs)
        (lt-ltb s.name.0 (length names) (h.slots i j c s e f))
        (all_true (λ (a : Name). nat_lt a.0 (length names)) s.initargs (λ k a g. lt-ltb a.0 (length names) (h.initargs i j k c s a e f g))))))

    literal_passes : (i : ℕ) (l : LiteralRow) → slice_get program.literals i ≡ Some l → is_literal_named (length names) l ≡ true
    literal_passes i (row.Datum d) e = named (length names) d (h.literals i d e)
    literal_passes i (row.Class c) e = refl
    literal_passes i (row.Function name) e = refl

    pub literals_pass : list_all (is_literal_named (length names)) program.literals ≡ true
    literals_pass = all_true (is_literal_named (length names)) program.literals literal_passes

-- what the tests of rows tell together
pub rows_told : (names : List (List ℕ)) (true_name : Name) (program : ProgramRows) (count : ℕ) (none classes literals result : Bool)
    → slice_get names true_name.0 ≡ Some (116 ∷ []) → count ≡ length names
    → (none ≡ true → (i : ℕ) → slice_get names i ≡ Some nil_text → ⊥) → (none ≡ false → (i : ℕ) × (slice_get names i ≡ Some nil_text))
    → classes ≡ list_all (is_class_named count) program.classes → literals ≡ list_all (is_literal_named count) program.literals
    → result ≡ (none && (classes && literals)) → IsTrue result ↔ NamesThere names true_name program
rows_told names true_name program count none classes literals result here long no_nil a_nil is_classes is_literals same = (forth, back)
  where
    of_classes : classes ≡ list_all (is_class_named (length names)) program.classes
    of_classes = is_classes ∙ ap (λ (n : ℕ). list_all (is_class_named n) program.classes) long

    of_literals : literals ≡ list_all (is_literal_named (length names)) program.literals
    of_literals = is_literals ∙ ap (λ (n : ℕ). list_all (is_literal_named n) program.literals) long

    forth : result ≡ true → NamesThere names true_name program
    forth h =
        let all : (none && (classes && literals)) ≡ true = sym same ∙ h in
        let both = second_true none (classes && literals) all in
        names_there names true_name program here (no_nil (first_true none (classes && literals) all))
        (sym of_classes ∙ first_true classes literals both) (sym of_literals ∙ second_true classes literals both)

    has_none : (b : Bool) → none ≡ b → NamesThere names true_name program → none ≡ true
    has_none true e h = e
    has_none false e h = let one = a_nil e in absurd (h.no_nil one.0 one.1)

    back : NamesThere names true_name program → result ≡ true
    back h =
        same
        ∙ both_true none (classes && literals) (has_none none refl h)
        (both_true classes literals (of_classes ∙ classes_pass names true_name program h) (of_literals ∙ literals_pass names true_name program h))
