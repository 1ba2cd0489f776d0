-- The built-in classes are such as a program has to have.
use Rattle.std.proofs.Common.{◌≡◌, ◌+◌, ◌≤◌, ◌<◌, ℕ, zero, suc, nat_lt, Bool, true, false, not, List, [], ◌∷◌, ◌++◌, length, map, take, filter, flat_map, slice_get, is_some, Option, Some, None, if◌then◌else◌, refl, sym, ap, subst, ◌∙◌, arith}
use Rattle.std.specs.Str.{bytes_eq}
use Rattle.std.specs.Prelude.{All}
use Rattle.std.specs.List.{list_all}
use Rattle.std.proofs.lemmas.Bool.{lt-ltb, le-leb, eqb-true, eq-eqb}
use Rattle.std.proofs.lemmas.List.Elements.{All-head, All-tail}
use Rattle.std.proofs.lemmas.Option.{slice_get_within}
use Rattle.std.proofs.lemmas.Bool.{and_from, and_parts}
use Rattle.base.specs.declared.datum.Name.{Name}
use Rattle.base.specs.AllOf.{AllOf, all_both, all_map}
use Rattle.lang_meaning.specs.declared.program.ClassRow.{ClassRow}
use Rattle.lang_meaning.specs.declared.program.SlotRow.{SlotRow}
use Rattle.lang_meaning.specs.BuiltIn.{built_in_precedence, built_in_slots}
use Rattle.lang_meaning.specs.Facts.{is_one, is_plain_slot, is_row, begins_with_built_in}
use Rattle.lang_meaning.specs.bridge.Prefixes.{of_prefix}
use Rattle.lang_classes.specs.InheritedSlots.{same_name, without_name, each_first, of_name, last_initform, slot_of, slots_of, names_of, united, slots_said_by, own_slots, said_by}
use Rattle.lang_classes.specs.InheritedClasses.{Hierarchy, IsRow, IsBuiltIn}
use Rattle.lang_classes.specs.InheritedBuiltIn.{own_initarg, SaysSlots, AreBuiltIn, built_in_own}
use Rattle.lang_meaning.specs.declared.program.ProgramRows.{ProgramRows}
use Rattle.lang_meaning.specs.Facts.{initform_fits, class_fits}
use Rattle.front_profile.specs.Marks.{StandsFirst}
use Rattle.front_profile.specs.Definitions.{Definitions, rows_of, slot_fits, initform_takes_nothing, WholeClasses}
use Rattle.front_profile.specs.Classes.{BeginsBuiltIn}
use Rattle.front_profile.proofs.Captured.{each_kept}

-- a slot that is its own initarg, and that nothing gives a value
pub record IsOwn (s : SlotRow) : Type 0 where
  pub initargs : s.initargs ≡ s.name ∷ []
  pub initform : s.initform ≡ None

own_said : (ns : List Name) → AllOf IsOwn (map own_initarg ns)
own_said [] = tt
own_said (n ∷ ns) = (record { initargs = refl; initform = refl }, own_said ns)

own_slots_said : (P : SlotRow → Type 0) (own : List (List SlotRow)) → ((c : ℕ) (slots : List SlotRow) → slice_get own c ≡ Some slots → AllOf P slots) → (c : ℕ) → AllOf P (own_slots own c)
own_slots_said P own h c = by_slots (slice_get own c) refl
  where
    by_slots : (o : Option (List SlotRow)) → slice_get own c ≡ o → AllOf P (slots_said_by o)
    by_slots None e = tt
    by_slots (Some slots) e = h c slots e

all_said : (P : SlotRow → Type 0) (own : List (List SlotRow)) → ((c : ℕ) (slots : List SlotRow) → slice_get own c ≡ Some slots → AllOf P slots) → (cs : List ℕ) → AllOf P (said_by own cs)
all_said P own h [] = tt
all_said P own h (c ∷ cs) = all_both P (said_by own cs) (own_slots own c) (all_said P own h cs) (own_slots_said P own h c)

-- the slots that are united of such are plain

no_initform : (ss : List SlotRow) → AllOf IsOwn ss → last_initform ss ≡ None
no_initform [] e = refl
no_initform (s ∷ ss) e = rw (no_initform ss e.1) e.0.initform

-- names that are all that one
abbrev AllThat : Name → List Name → Type 0
AllThat n ms = AllOf (λ m. same_name n m ≡ true) ms

that_kept : (n : Name) (p : Name → Bool) (ms : List Name) → AllThat n ms → AllThat n (filter p ms)
that_kept n p ms e = each_kept (λ m. same_name n m ≡ true) p ms e

that_first : (n : Name) (ms : List Name) → AllThat n ms → AllThat n (each_first ms)
that_first n [] e = tt
that_first n (m ∷ ms) e = (e.0, that_kept n (λ k. not (same_name m k)) (each_first ms) (that_first n ms e.1))

same_both : (n m k : Name) → same_name n m ≡ true → same_name n k ≡ true → same_name m k ≡ true
same_both n m k e f =
    let a : n.0 ≡ m.0 = eqb-true n.0 m.0 e in
    let b : n.0 ≡ k.0 = eqb-true n.0 k.0 f in
    eq-eqb m.0 k.0 (sym a ∙ b)

none_left : (n m : Name) (ks : List Name) → same_name n m ≡ true → AllThat n ks → without_name m ks ≡ []
none_left n m [] e f = refl
none_left n m (k ∷ ks) e f =
    let same : same_name m k ≡ true = same_both n m k e f.0 in rw same (none_left n m ks e f.1)

one_left : (n m : Name) (ms : List Name) → AllThat n (m ∷ ms) → is_one n (each_first (m ∷ ms)) ≡ true
one_left n m ms e = ap (λ ks. is_one n (m ∷ ks)) (none_left n m (each_first ms) e.0 (that_first n ms e.1)) ∙ e.0

-- what is said of a slot by its name
of_that : (n : Name) (ss : List SlotRow) → AllOf IsOwn ss → AllOf (λ s. IsOwn s × (same_name n s.name ≡ true)) (of_name n ss)
of_that n [] e = tt
of_that n (s ∷ ss) e = by_test (same_name n s.name) refl (of_name n ss) (of_that n ss e.1)
  where
    by_test : (b : Bool) → same_name n s.name ≡ b → (ks : List SlotRow) → AllOf (λ k. IsOwn k × (same_name n k.name ≡ true)) ks
        → AllOf (λ k. IsOwn k × (same_name n k.name ≡ true)) (if b then s ∷ ks else ks)
    by_test true k ks f = ((e.0, k), f)
    by_test false k ks f = f

initargs_that : (n : Name) (ss : List SlotRow) → AllOf (λ s. IsOwn s × (same_name n s.name ≡ true)) ss → AllThat n (flat_map (λ s. s.initargs) ss)
initargs_that n [] e = tt
initargs_that n (s ∷ ss) e =
    all_both (λ m. same_name n m ≡ true) s.initargs (flat_map (λ s. s.initargs) ss)
    (subst (AllThat n) (sym e.0.0.initargs) (e.0.1, tt)) (initargs_that n ss e.1)

-- there is such a slot
one_of_first : (n : Name) (ss : List SlotRow) → AllOf (λ s. IsOwn s × (same_name n s.name ≡ true)) ss → 1 ≤ length ss → is_one n (each_first (flat_map (λ s. s.initargs) ss)) ≡ true
one_of_first n [] e l = absurd (omega (arith, l))
one_of_first n (s ∷ ss) e l =
    let front : flat_map (λ s. s.initargs) (s ∷ ss) ≡ s.name ∷ flat_map (λ s. s.initargs) ss =
    ap (λ ns. ns ++ flat_map (λ s. s.initargs) ss) e.0.0.initargs in
    ap (λ ns. is_one n (each_first ns)) front ∙ one_left n s.name (flat_map (λ s. s.initargs) ss) (e.0.1, initargs_that n ss e.1)

slot_plain : (said : List SlotRow) (n : Name) → AllOf IsOwn said → 1 ≤ length (of_name n said) → is_plain_slot (slot_of said n) ≡ true
slot_plain said n e l =
    let of : AllOf (λ s. IsOwn s × (same_name n s.name ≡ true)) (of_name n said) = of_that n said e in
    let none : last_initform (of_name n said) ≡ None =
    no_initform (of_name n said) (all_map (λ s. IsOwn s × (same_name n s.name ≡ true)) IsOwn (λ s k. k.0) (of_name n said) of) in
    and_from _ _ (one_of_first n (of_name n said) of l) (ap (λ (o : Option ℕ). not (is_some o)) none)

-- each name of these is the name of one
abbrev Occurs : List SlotRow → Name → Type 0
Occurs said n = 1 ≤ length (of_name n said)

occurs_more : (s : SlotRow) (ss : List SlotRow) (n : Name) → Occurs ss n → Occurs (s ∷ ss) n
occurs_more s ss n h = by_test (same_name n s.name)
  where
    by_test : (b : Bool) → 1 ≤ length (if b then s ∷ of_name n ss else of_name n ss)
    by_test true = omega (arith, h)
    by_test false = h

occurs_here : (s : SlotRow) (ss : List SlotRow) → Occurs (s ∷ ss) s.name
occurs_here s ss = let same : same_name s.name s.name ≡ true = eq-eqb s.name.0 s.name.0 refl in rw same (omega arith)

all_occur : (ss : List SlotRow) → AllOf (Occurs ss) (names_of ss)
all_occur [] = tt
all_occur (s ∷ ss) = (occurs_here s ss, all_map (Occurs ss) (Occurs (s ∷ ss)) (occurs_more s ss) (names_of ss) (all_occur ss))

first_of_each : (P : Name → Type 0) (ns : List Name) → AllOf P ns → AllOf P (each_first ns)
first_of_each P [] e = tt
first_of_each P (n ∷ ns) e = (e.0, each_kept P (λ m. not (same_name n m)) (each_first ns) (first_of_each P ns e.1))

slots_plain : (said : List SlotRow) (ns : List Name) → AllOf IsOwn said → AllOf (Occurs said) ns → list_all is_plain_slot (slots_of said ns) ≡ true
slots_plain said [] e o = refl
slots_plain said (n ∷ ns) e o = and_from _ _ (slot_plain said n e o.0) (slots_plain said ns e o.1)

united_plain : (said : List SlotRow) → AllOf IsOwn said → list_all is_plain_slot (united said) ≡ true
unfolding united
united_plain said e = slots_plain said (each_first (names_of said)) e (first_of_each (Occurs said) (names_of said) (all_occur said))

-- of each class

row_plain : (texts : List (List ℕ)) (h : Hierarchy) → AreBuiltIn texts h → (c : ℕ) (row : ClassRow) → slice_get h.rows c ≡ Some row → list_all is_plain_slot row.slots ≡ true
row_plain texts h b c row e =
    let r : IsRow (take c h.rows) (take (c + 1) h.own) c row = b.hierarchy.classes.right c row e in
    ap (list_all is_plain_slot) r.slots
    ∙ united_plain (said_by (take (c + 1) h.own) row.precedence)
    (all_said IsOwn (take (c + 1) h.own)
    (λ d slots k.
    let s : SaysSlots texts (built_in_own d) slots = b.named.own d slots (of_prefix (c + 1) h.own d slots k).1 in
    subst (AllOf IsOwn) (sym s.slots_are) (own_said (names_of slots)))
    row.precedence)

line_below : (n : ℕ) (ds : List ℕ) (c : ℕ) → All (λ d. d ≤ c) ds → c < n → list_all (λ d. nat_lt d n) ds ≡ true
line_below n [] c h l = refl
line_below n (d ∷ ds) c h l =
    let here : d ≤ c = All-head (λ d. d ≤ c) d ds h in
    and_from _ _ (lt-ltb d n (omega (arith, here, l))) (line_below n ds c (All-tail (λ d. d ≤ c) d ds h) l)

-- what holds of each row holds of all
rows_all : (p : ClassRow → Bool) (cs : List ClassRow) → ((c : ℕ) (row : ClassRow) → slice_get cs c ≡ Some row → p row ≡ true) → list_all p cs ≡ true
rows_all p [] h = refl
rows_all p (c ∷ cs) h = and_from _ _ (h 0 c refl) (rows_all p cs (λ k row e. h (suc k) row e))

same_line : (ds : List ℕ) → bytes_eq ds ds ≡ true
same_line [] = refl
same_line (d ∷ ds) = and_from _ _ (eq-eqb d d refl) (same_line ds)

built_in_row : (row : ClassRow) (p : List ℕ) (n : ℕ) → p ≡ row.precedence → n ≡ length row.slots → row.abstract_class ≡ false → list_all is_plain_slot row.slots ≡ true
    → is_row row p n ≡ true
built_in_row row p n e f a s =
    and_from _ _ (and_from _ _ (and_from _ _ (ap (bytes_eq row.precedence) e ∙ same_line row.precedence) (eq-eqb (length row.slots) n (sym f))) s) (ap not a)

-- the rows stand as the lists of built-in classes have them
pub record RowsAre (cs : List ClassRow) (ps : List (List ℕ)) (ns : List ℕ) : Type 0 where
  pub precedence : (c : ℕ) (row : ClassRow) → slice_get cs c ≡ Some row → slice_get ps c ≡ Some row.precedence
  pub count : (c : ℕ) (row : ClassRow) → slice_get cs c ≡ Some row → slice_get ns c ≡ Some (length row.slots)
  pub concrete : (c : ℕ) (row : ClassRow) → slice_get cs c ≡ Some row → row.abstract_class ≡ false
  pub plain : (c : ℕ) (row : ClassRow) → slice_get cs c ≡ Some row → list_all is_plain_slot row.slots ≡ true

begins : (cs : List ClassRow) (ps : List (List ℕ)) (ns : List ℕ) → length cs ≡ length ps → RowsAre cs ps ns → begins_with_built_in cs ps ns ≡ true
begins cs [] ns l r = refl
begins [] (p ∷ ps) ns l r = absurd (omega (arith, l))
begins (c ∷ cs) (p ∷ ps) [] l r = absurd (cc (r.count 0 c refl))
begins (c ∷ cs) (p ∷ ps) (n ∷ ns) l r =
    let a : Some p ≡ Some c.precedence = r.precedence 0 c refl in
    let b : Some n ≡ Some (length c.slots) = r.count 0 c refl in
    and_from _ _ (built_in_row c p n (cc a) (cc b) (r.concrete 0 c refl) (r.plain 0 c refl))
    (begins cs ps ns (omega (arith, l)) (record {
      precedence = λ k row e. r.precedence (suc k) row e;
      count = λ k row e. r.count (suc k) row e;
      concrete = λ k row e. r.concrete (suc k) row e;
      plain = λ k row e. r.plain (suc k) row e;
    }))

pub built_in_begin : (texts : List (List ℕ)) (h : Hierarchy) → AreBuiltIn texts h → BeginsBuiltIn h.rows
built_in_begin texts h b =
    let all : length h.rows ≡ 34 = b.number in
    let is : (c : ℕ) (row : ClassRow) → slice_get h.rows c ≡ Some row → IsBuiltIn c row =
    λ c row e. b.hierarchy.built_in c row (let l : c < length h.rows = slice_get_within h.rows c row e in omega (arith, l, all)) e in
    record {
      begins = begins h.rows built_in_precedence built_in_slots all (record {
        precedence = λ c row e. (is c row e).precedence;
        count = λ c row e. (is c row e).count;
        concrete = λ c row e. (is c row e).concrete;
        plain = row_plain texts h b;
      });
    }

-- they are so with more behind them
begin_still : (cs ds : List ClassRow) (ps : List (List ℕ)) (ns : List ℕ) → StandsFirst cs ds → begins_with_built_in cs ps ns ≡ true → begins_with_built_in ds ps ns ≡ true
begin_still cs ds [] ns e h = refl
begin_still [] ds (p ∷ ps) ns e h = absurd (cc h)
begin_still (c ∷ cs) ds (p ∷ ps) [] e h = absurd (cc h)
begin_still (c ∷ cs) [] (p ∷ ps) (n ∷ ns) e h = absurd (cc e)
begin_still (c ∷ cs) (d ∷ ds) (p ∷ ps) (n ∷ ns) e h =
    let same : d ≡ c = cc e in
    let rest : take (length cs) ds ≡ cs = cc e in
    let k : (is_row c p n ≡ true) × (begins_with_built_in cs ps ns ≡ true) = and_parts _ _ h in
    and_from _ _ (ap (λ x. is_row x p n) same ∙ k.0) (begin_still cs ds ps ns rest k.1)

pub begins_later : (cs ds : List ClassRow) → StandsFirst cs ds → BeginsBuiltIn cs → BeginsBuiltIn ds
begins_later cs ds e b = record { begins = begin_still cs ds built_in_precedence built_in_slots e b.begins }

-- what the built-in classes say of slots fits: they have no initforms

slots_all : (p : List SlotRow → Bool) (own : List (List SlotRow)) → ((c : ℕ) (slots : List SlotRow) → slice_get own c ≡ Some slots → p slots ≡ true) → list_all p own ≡ true
slots_all p [] h = refl
slots_all p (s ∷ own) h = and_from _ _ (h 0 s refl) (slots_all p own (λ k slots e. h (suc k) slots e))

own_fit : (g : Definitions) (ns : List Name) → list_all (slot_fits g) (map own_initarg ns) ≡ true
own_fit g [] = refl
own_fit g (n ∷ ns) = own_fit g ns

pub built_in_slots_fit : (g : Definitions) (texts : List (List ℕ)) (h : Hierarchy) → AreBuiltIn texts h → list_all (λ slots. list_all (slot_fits g) slots) h.own ≡ true
built_in_slots_fit g texts h b =
    slots_all (λ slots. list_all (slot_fits g) slots) h.own (λ c slots e.
    let s : SaysSlots texts (built_in_own c) slots = b.named.own c slots e in
    ap (list_all (slot_fits g)) s.slots_are ∙ own_fit g (names_of slots))

-- a class fits where what its classes say of slots does

abbrev FitsThere : ProgramRows → SlotRow → Type 0
FitsThere r s = initform_fits r s.initform ≡ true

last_fits : (r : ProgramRows) (ss : List SlotRow) → AllOf (FitsThere r) ss → initform_fits r (last_initform ss) ≡ true
last_fits r [] e = refl
last_fits r (s ∷ ss) e = by_test (is_some (last_initform ss)) (last_initform ss) (last_fits r ss e.1)
  where
    by_test : (b : Bool) (o : Option ℕ) → initform_fits r o ≡ true → initform_fits r (if b then o else s.initform) ≡ true
    by_test true o h = h
    by_test false o h = e.0

united_fits : (r : ProgramRows) (said : List SlotRow) (ns : List Name) → AllOf (FitsThere r) said → list_all (λ s. initform_fits r s.initform) (slots_of said ns) ≡ true
united_fits r said [] e = refl
united_fits r said (n ∷ ns) e =
    and_from _ _ (last_fits r (of_name n said) (each_kept (FitsThere r) (λ s. same_name n s.name) said e)) (united_fits r said ns e)

all_united_fit : (r : ProgramRows) (said : List SlotRow) → AllOf (FitsThere r) said → list_all (λ s. initform_fits r s.initform) (united said) ≡ true
unfolding united
all_united_fit r said e = united_fits r said (each_first (names_of said)) e

each_of_all : (g : Definitions) (slots : List SlotRow) → list_all (slot_fits g) slots ≡ true → AllOf (FitsThere (rows_of g)) slots
each_of_all g [] h = tt
each_of_all g (s ∷ ss) h =
    let k : (slot_fits g s ≡ true) × (list_all (slot_fits g) ss ≡ true) = and_parts _ _ h in
    ((and_parts (initform_fits (rows_of g) s.initform) (initform_takes_nothing g.procedures s.initform) k.0).0, each_of_all g ss k.1)

own_of_all : (g : Definitions) (own : List (List SlotRow)) (c : ℕ) (slots : List SlotRow) → list_all (λ slots. list_all (slot_fits g) slots) own ≡ true
    → slice_get own c ≡ Some slots → list_all (slot_fits g) slots ≡ true
own_of_all g [] c slots h e = absurd (cc e)
own_of_all g (s ∷ own) zero slots h e =
    let k : (list_all (slot_fits g) s ≡ true) × (list_all (λ slots. list_all (slot_fits g) slots) own ≡ true) = and_parts _ _ h in
    let same : s ≡ slots = cc e in
    ap (list_all (slot_fits g)) (sym same) ∙ k.0
own_of_all g (s ∷ own) (suc c) slots h e =
    let k : (list_all (slot_fits g) s ≡ true) × (list_all (λ slots. list_all (slot_fits g) slots) own ≡ true) = and_parts _ _ h in
    own_of_all g own c slots k.1 e

pub classes_fit : (g : Definitions) → WholeClasses g → list_all (class_fits (rows_of g)) g.classes.rows ≡ true
classes_fit g w = rows_all (class_fits (rows_of g)) g.classes.rows (λ c row e.
    let h : Hierarchy = g.classes in
    let r : IsRow (take c h.rows) (take (c + 1) h.own) c row = w.hierarchy.classes.right c row e in
    and_from _ _
    (and_from _ _ (line_below (length h.rows) row.precedence c r.in_range (slice_get_within h.rows c row e))
    (ap (list_all (λ s. initform_fits (rows_of g) s.initform)) r.slots
    ∙ all_united_fit (rows_of g) (said_by (take (c + 1) h.own) row.precedence)
    (all_said (FitsThere (rows_of g)) (take (c + 1) h.own)
    (λ d slots k. each_of_all g slots (own_of_all g h.own d slots w.slots (of_prefix (c + 1) h.own d slots k).1)) row.precedence)))
    (le-leb (length row.slots) 64 r.few))
