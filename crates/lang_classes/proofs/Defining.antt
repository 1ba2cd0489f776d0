-- What a definition adds is a row like the others.
use Rattle.std.proofs.Common.{◌≡◌, ℕ, ◌<◌, ◌≤◌, ⊎_elim, suc, Bool, true, false, List, [], ◌∷◌, ◌++◌, Option, Some, None, Result, Ok, Err, OnOk, OnErr, All, length, slice_get, get_or, refl, sym, ap, ◌∙◌, if◌then◌else◌, length-append, arith}
use Rattle.std.proofs.lemmas.Option.{slice_get-get_or}
use Rattle.std.proofs.lemmas.List.Elements.{All-nil, All-cons, All-head, All-tail, All-append, All-weaker}
use Rattle.base.specs.declared.datum.Name.{Name}
use Rattle.base.specs.Names.{slice_get-push, slice_get-front, slice_get-behind}
use Rattle.lang_meaning.specs.declared.program.ClassRow.{ClassRow}
use Rattle.lang_meaning.specs.declared.program.SlotRow.{SlotRow}
use Rattle.lang_meaning.specs.Classes.{precedence_of}
use Rattle.lang_meaning.specs.Lookup.{is_in}
use Rattle.lang_meaning.specs.Objects.{standard_object_class}
use Rattle.lang_classes.specs.InheritedPrecedence.{above, each_last, joined, superclasses, precedence_below, supers_fit}
use Rattle.lang_classes.specs.InheritedSlots.{each_first, names_of, slots_of, said_by, own_slots, slots_said_by, united}
use Rattle.lang_classes.specs.InheritedClasses.{GivenSlot, Hierarchy, IsHierarchy, IsRow, AreClasses, inherited_names, row_of, slot_limit, slots_given, with_own, with_class}
use Rattle.lang_classes.specs.declared.slot_spec.SlotSpec.{SlotSpec}
use Rattle.lang_classes.specs.Given.{given, spec_names}

-- numbers in range

each_last-below : (n : ℕ) (cs : List ℕ) → All (λ c. c < n) cs → All (λ c. c < n) (each_last cs)
each_last-below n [] a = a
each_last-below n (c ∷ cs) a =
    let P : ℕ → Type 0 = λ c. c < n in
    by (is_in c cs) (All-head P c cs a) (each_last-below n cs (All-tail P c cs a))
  where
    by : (b : Bool) → c < n → All (λ d. d < n) (each_last cs) → All (λ d. d < n) (if b then each_last cs else c ∷ each_last cs)
    by true h r = r
    by false h r = All-cons (λ d. d < n) c (each_last cs) h r

-- the precedence list of a class that is there
line-below : (h : Hierarchy) → AreClasses h → (s : ℕ) → s < length h.rows → All (λ c. c < length h.rows) (precedence_of (slice_get h.rows s))
line-below h a s l = by (slice_get h.rows s) refl
  where
    by : (o : Option ClassRow) → slice_get h.rows s ≡ o → All (λ c. c < length h.rows) (precedence_of o)
    by None e = All-nil (λ c. c < length h.rows)
    by (Some row) e = All-weaker (λ c. c ≤ s) (λ c. c < length h.rows) (λ c le. omega arith) row.precedence (a.right s row e).in_range

joined-below : (h : Hierarchy) → AreClasses h → (supers : List ℕ) → All (λ s. s < length h.rows) supers → All (λ c. c < length h.rows) (joined h.rows supers)
joined-below h a [] in_range = All-nil (λ c. c < length h.rows)
joined-below h a (s ∷ supers) in_range =
    let P : ℕ → Type 0 = λ c. c < length h.rows in
    All-append P (precedence_of (slice_get h.rows s)) (joined h.rows supers) (line-below h a s (All-head P s supers in_range)) (joined-below h a supers (All-tail P s supers in_range))

superclasses-below : (h : Hierarchy) → IsHierarchy h → (supers : List ℕ) → All (λ s. s < length h.rows) supers → All (λ s. s < length h.rows) (superclasses supers)
superclasses-below h x [] in_range =
    let P : ℕ → Type 0 = λ s. s < length h.rows in
    let there : standard_object_class < length h.rows = omega (arith, x.enough) in
    All-cons P standard_object_class [] there in_range
superclasses-below h x (s ∷ supers) in_range = in_range

above-below : (h : Hierarchy) → IsHierarchy h → (supers : List ℕ) → All (λ s. s < length h.rows) supers → All (λ c. c < length h.rows) (above h.rows supers)
unfolding above
above-below h x supers in_range =
    each_last-below (length h.rows) (joined h.rows (superclasses supers)) (joined-below h x.classes (superclasses supers) (superclasses-below h x supers in_range))

-- what is said of slots

own-front : (own : List (List SlotRow)) (o : List SlotRow) (c : ℕ) → c < length own → own_slots (own ++ o ∷ []) c ≡ own_slots own c
own-front own o c l =
    let there : slice_get own c ≡ Some (get_or own c o) = slice_get-get_or own c o l in
    ap slots_said_by (slice_get-front own (o ∷ []) c (get_or own c o) there ∙ sym there)

said-front : (own : List (List SlotRow)) (o : List SlotRow) (line : List ℕ) → All (λ c. c < length own) line → said_by (own ++ o ∷ []) line ≡ said_by own line
said-front own o [] a = refl
said-front own o (c ∷ line) a =
    let P : ℕ → Type 0 = λ d. d < length own in
    rw (said-front own o line (All-tail P c line a), own-front own o c (All-head P c line a)) refl

-- a class says it last
pub said-own : (own : List (List SlotRow)) (o : List SlotRow) (line : List ℕ) (c : ℕ) → c ≡ length own → All (λ d. d < length own) line
    → said_by (own ++ o ∷ []) (c ∷ line) ≡ said_by own line ++ o
said-own own o line c e a =
    let last : own_slots (own ++ o ∷ []) c ≡ o = ap (own_slots (own ++ o ∷ [])) e ∙ ap slots_said_by (slice_get-behind own o) in
    rw (said-front own o line a, last) refl

pub names-append : (xs ys : List SlotRow) → names_of (xs ++ ys) ≡ names_of xs ++ names_of ys
names-append [] ys = refl
names-append (x ∷ xs) ys = ap (λ ns. x.name ∷ ns) (names-append xs ys)

names-given : (slots : List SlotSpec) → names_of (slots_given (given slots)) ≡ spec_names slots
names-given [] = refl
names-given (s ∷ slots) = ap (λ ns. s.name ∷ ns) (names-given slots)

-- there are as many slots as names
pub length-united : (said : List SlotRow) → length (united said) ≡ length (each_first (names_of said))
unfolding united
length-united said = by (each_first (names_of said))
  where
    by : (ns : List Name) → length (slots_of said ns) ≡ length ns
    by [] = refl
    by (n ∷ ns) = ap suc (by ns)

module _ (h : Hierarchy) (name : Name) (supers : List ℕ) (slots : List SlotSpec) (abstract_class : Bool) (x : IsHierarchy h)
    (in_range : All (λ s. s < length h.rows) supers) where
  slots_same : said_by (with_own h (given slots)) (length h.rows ∷ above h.rows supers) ≡ said_by h.own (above h.rows supers) ++ slots_given (given slots)
  slots_same =
      let below : All (λ c. c < length h.own) (above h.rows supers) = rw x.classes.paired (above-below h x supers in_range) in
      said-own h.own (slots_given (given slots)) (above h.rows supers) (length h.rows) (sym x.classes.paired) below

  -- the row by the code's parts is the row by the definition
  pub row_is : (row : ClassRow) (line : List ℕ) (inherited : List SlotRow) → line ≡ above h.rows supers → inherited ≡ said_by h.own (above h.rows supers)
      → row ≡ record { name = name; precedence = length h.rows ∷ line; slots = united (inherited ++ slots_given (given slots)); abstract_class = abstract_class }
      → row ≡ row_of name (precedence_below h.rows (length h.rows) supers) (with_own h (given slots)) abstract_class
  row_is row line inherited l i e = e ∙ rw (l, i, slots_same) refl

  -- and is right
  pub is_right : (row : ClassRow) → supers_fit h.rows supers ≡ true
      → length (each_first (inherited_names h supers ++ spec_names slots)) ≤ slot_limit
      → row ≡ row_of name (precedence_below h.rows (length h.rows) supers) (with_own h (given slots)) abstract_class
      → IsRow h.rows (with_own h (given slots)) (length h.rows) row
  is_right row fit few e = rw e (record {
    in_range = All-cons (λ d. d ≤ length h.rows) (length h.rows) (above h.rows supers) (omega arith)
        (All-weaker (λ d. d < length h.rows) (λ d. d ≤ length h.rows) (λ d l. omega arith) (above h.rows supers) (above-below h x supers in_range));
    slots = refl;
    few = omega (arith, as_many);
    below = λ own. record { supers = supers; fit = fit; is = refl };
  })
    where
      as_many : length (united (said_by (with_own h (given slots)) (length h.rows ∷ above h.rows supers)))
          ≡ length (each_first (inherited_names h supers ++ spec_names slots))
      as_many =
          ap (λ said. length (united said)) slots_same
          ∙ length-united (said_by h.own (above h.rows supers) ++ slots_given (given slots))
          ∙ ap (λ ns. length (each_first ns)) (names-append (said_by h.own (above h.rows supers)) (slots_given (given slots)) ∙ ap (λ ns. inherited_names h supers ++ ns) (names-given slots))

-- the classes with one more

-- what follows from both answers
pub either_way : {T E A B C : Type 0} (r : Result T E) → OnOk r A → OnErr r B → (A → C) → (B → C) → C
either_way (Ok x) a b f g = f a
either_way (Err e) a b f g = g b

pub hierarchy_more : (h h' : Hierarchy) (row : ClassRow) (own : List SlotRow) → IsHierarchy h → AreClasses h'
    → h' ≡ record { rows = h.rows ++ row ∷ []; own = h.own ++ own ∷ [] } → IsHierarchy h'
hierarchy_more h h' row own x classes e =
    let rows : h'.rows ≡ h.rows ++ row ∷ [] = ap (λ k. k.rows) e in
    record {
      classes = classes;
      enough = omega (arith, x.enough, ap length rows, length-append h.rows (row ∷ []));
      built_in = λ c r below there.
          ⊎_elim
          (λ front. x.built_in c r below front)
          (λ last. absurd (omega (arith, x.enough, last.0)))
          (slice_get-push h.rows row c r (ap (λ rs. slice_get rs c) (sym rows) ∙ there));
    }

pub is_with_class : (h h' : Hierarchy) (name : Name) (supers : List ℕ) (gs : List GivenSlot) (abstract_class : Bool) (row : ClassRow) (own : List SlotRow)
    → own ≡ slots_given gs → row ≡ row_of name (precedence_below h.rows (length h.rows) supers) (with_own h gs) abstract_class
    → h' ≡ record { rows = h.rows ++ row ∷ []; own = h.own ++ own ∷ [] } → h' ≡ with_class h name supers gs abstract_class
unfolding with_class
is_with_class h h' name supers gs abstract_class row own o r e = rw (e, o, r) refl
