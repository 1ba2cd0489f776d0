-- The built-in classes, one after the other.
use Rattle.std.proofs.Common.{◌≡◌, ℕ, ◌+◌, ◌<◌, ◌≤◌, ⊎_elim, zero, suc, Bool, true, false, ◌&&◌, ◌==◌, not, nat_le, nat_lt, List, [], ◌∷◌, ◌++◌, Option, Some, None, All, map, length, slice_get, get_or, refl, sym, ap, subst, ◌∙◌, if◌then◌else◌, length-append, add-one, add-zero, arith, ◌||◌}
use Rattle.std.specs.Str.{bytes_eq}
use Rattle.std.specs.List.{list_all, list_any}
use Rattle.std.specs.Option.{option_map}
use Rattle.std.proofs.lemmas.Option.{slice_get_within, slice_get-get_or}
use Rattle.std.proofs.lemmas.Bool.{eqb-true, eq-eqb, leb-true, ltb-true, and_parts, not-true}
use Rattle.std.proofs.lemmas.List.Elements.{All-nil, All-cons, All-head, All-tail, All-weaker}
use Rattle.base.specs.declared.datum.Name.{Name}
use Rattle.base.specs.Names.{Extends, Extends-then, text_stays, slice_get-push}
use Rattle.lang_meaning.specs.declared.program.ClassRow.{ClassRow}
use Rattle.lang_meaning.specs.declared.program.SlotRow.{SlotRow}
use Rattle.lang_meaning.specs.BuiltIn.{built_in_precedence, built_in_slots, class_texts}
use Rattle.lang_meaning.specs.Lookup.{all_differ}
use Rattle.lang_classes.specs.InheritedSlots.{same_name, has_name, each_first, without_name, names_of, said_by, own_slots, united}
use Rattle.lang_classes.specs.InheritedClasses.{Hierarchy, IsRow, AreClasses, IsBuiltIn, class_named, slot_limit}
use Rattle.lang_classes.specs.InheritedBuiltIn.{SaysSlots, AreBuiltIn, built_in_own, own_initarg, texts_of}
use Rattle.lang_classes.specs.FirstClasses.{AreFirst, AreSlotsOf}
use Rattle.lang_classes.specs.FirstNames.{either}
use Rattle.lang_classes.proofs.Defining.{said-own, length-united, names-append}

-- what passes for all passes for each
list_all-get : {X : Type 0} (p : X → Bool) (xs : List X) (i : ℕ) (x : X) → list_all p xs ≡ true → slice_get xs i ≡ Some x → p x ≡ true
list_all-get p [] i x a h = absurd (cc)
list_all-get p (y ∷ ys) zero x a h = let e : y ≡ x = cc in subst (λ z. p z ≡ true) e (and_parts (p y) (list_all p ys) a).0
list_all-get p (y ∷ ys) (suc i) x a h = list_all-get p ys i x (and_parts (p y) (list_all p ys) a).1 h

-- the names of classes are short
all_short : list_all (λ t. nat_le (length t) 263) class_texts ≡ true
all_short = refl

pub text_short : (c : ℕ) (t : List ℕ) → slice_get class_texts c ≡ Some t → length t ≤ 263
text_short c t h = leb-true (length t) 263 (list_all-get (λ s. nat_le (length s) 263) class_texts c t all_short h)

-- slots say the same in a later table of names
texts-stay : (old new : List (List ℕ)) (ns : List Name) (ts : List (List ℕ)) → Extends old new → texts_of old ns ≡ map (λ t. Some t) ts → texts_of new ns ≡ map (λ t. Some t) ts
texts-stay old new [] ts x h = h
texts-stay old new (n ∷ ns) [] x h = absurd (cc)
texts-stay old new (n ∷ ns) (t ∷ ts) x h =
    let here : slice_get old n.0 ≡ Some t = cc in
    let others : texts_of old ns ≡ map (λ s. Some s) ts = cc in
    let kept : slice_get new n.0 ≡ Some t = text_stays old new n.0 t x here in
    rw kept (ap (λ os. Some t ∷ os) (texts-stay old new ns ts x others))

says-stays : (old new : List (List ℕ)) (ts : List (List ℕ)) (slots : List SlotRow) → Extends old new → SaysSlots old ts slots → SaysSlots new ts slots
says-stays old new ts slots x s = record { names_are = texts-stay old new (names_of slots) ts x s.names_are; slots_are = s.slots_are }

texts-append : (texts : List (List ℕ)) (ms ns : List Name) → texts_of texts (ms ++ ns) ≡ texts_of texts ms ++ texts_of texts ns
texts-append texts [] ns = refl
texts-append texts (m ∷ ms) ns = ap (λ os. slice_get texts m.0 ∷ os) (texts-append texts ms ns)

some-append : (ss ts : List (List ℕ)) → map (λ t. Some t) (ss ++ ts) ≡ map (λ t. Some t) ss ++ map (λ t. Some t) ts
some-append [] ts = refl
some-append (s ∷ ss) ts = ap (λ os. Some s ∷ os) (some-append ss ts)

own-append : (ms ns : List Name) → map own_initarg (ms ++ ns) ≡ map own_initarg ms ++ map own_initarg ns
own-append [] ns = refl
own-append (m ∷ ms) ns = ap (λ os. own_initarg m ∷ os) (own-append ms ns)

-- no slot
pub says-nothing : (texts : List (List ℕ)) → SaysSlots texts [] []
says-nothing texts = record { names_are = refl; slots_are = refl }

-- one slot more
pub says-more : (old new : List (List ℕ)) (ts : List (List ℕ)) (slots slots' : List SlotRow) (n : Name) (t : List ℕ)
    → Extends old new → slice_get new n.0 ≡ Some t → slots' ≡ slots ++ own_initarg n ∷ []
    → SaysSlots old ts slots → SaysSlots new (ts ++ t ∷ []) slots'
says-more old new ts slots slots' n t x h e s = rw e (record {
  names_are =
      ap (texts_of new) (names-append slots (own_initarg n ∷ []))
      ∙ texts-append new (names_of slots) (n ∷ [])
      ∙ rw (h, texts-stay old new (names_of slots) ts x s.names_are) (sym (some-append ts (t ∷ [])));
  slots_are =
      ap (λ ss. ss ++ own_initarg n ∷ []) s.slots_are
      ∙ sym (own-append (names_of slots) (n ∷ []))
      ∙ ap (map own_initarg) (sym (names-append slots (own_initarg n ∷ [])));
})

-- texts that differ have names that differ

bytes_eq-refl : (t : List ℕ) → bytes_eq t t ≡ true
bytes_eq-refl [] = refl
bytes_eq-refl (x ∷ xs) = rw (eq-eqb x x refl) (bytes_eq-refl xs)

other_name : (texts : List (List ℕ)) (n : Name) (t : List ℕ) (ns : List Name) (ts : List (List ℕ)) → slice_get texts n.0 ≡ Some t
    → texts_of texts ns ≡ map (λ s. Some s) ts → list_any (bytes_eq t) ts ≡ false → has_name n ns ≡ false
other_name texts n t [] ts h e d = refl
other_name texts n t (m ∷ ns) [] h e d = absurd (cc)
other_name texts n t (m ∷ ns) (s ∷ ts) h e d =
    let there : slice_get texts m.0 ≡ Some s = cc in
    let others : texts_of texts ns ≡ map (λ u. Some u) ts = cc in
    ⊎_elim
    (λ a. absurd (both a))
    (λ a.
    let later : list_any (bytes_eq t) ts ≡ false = ap (λ b. b || list_any (bytes_eq t) ts) (sym a) ∙ d in
    rw (apart there a) (other_name texts n t ns ts h others later))
    (either (bytes_eq t s))
  where
    both : bytes_eq t s ≡ true → ⊥
    both a = let w : (bytes_eq t s || list_any (bytes_eq t) ts) ≡ true = ap (λ b. b || list_any (bytes_eq t) ts) a in cc

    apart : slice_get texts m.0 ≡ Some s → bytes_eq t s ≡ false → same_name n m ≡ false
    apart there a =
        ⊎_elim
        (λ k.
        let e : n.0 ≡ m.0 = eqb-true n.0 m.0 k in
        let one : Some t ≡ Some s = sym h ∙ ap (slice_get texts) e ∙ there in
        let same : t ≡ s = cc in
        let yes : bytes_eq t s ≡ true = subst (λ u. bytes_eq t u ≡ true) same (bytes_eq-refl t) in
        absurd (cc))
        (λ k. k)
        (either (same_name n m))

without-other : (n : Name) (ns : List Name) → has_name n ns ≡ false → without_name n ns ≡ ns
without-other n [] h = refl
without-other n (m ∷ ns) h =
    ⊎_elim
    (λ a. let w : (same_name n m || has_name n ns) ≡ true = ap (λ b. b || has_name n ns) a in absurd (cc))
    (λ a.
    let later : has_name n ns ≡ false = ap (λ b. b || has_name n ns) (sym a) ∙ h in
    rw a (ap (λ ms. m ∷ ms) (without-other n ns later)))
    (either (same_name n m))

all_different : (texts : List (List ℕ)) (ns : List Name) (ts : List (List ℕ)) → texts_of texts ns ≡ map (λ s. Some s) ts → all_differ bytes_eq ts ≡ true
    → (each_first ns ≡ ns) × (length ns ≡ length ts)
all_different texts [] [] e d = (refl, refl)
all_different texts [] (t ∷ ts) e d = absurd (cc)
all_different texts (n ∷ ns) [] e d = absurd (cc)
all_different texts (n ∷ ns) (t ∷ ts) e d =
    let here : slice_get texts n.0 ≡ Some t = cc in
    let others : texts_of texts ns ≡ map (λ s. Some s) ts = cc in
    let parts = and_parts (not (list_any (bytes_eq t) ts)) (all_differ bytes_eq ts) d in
    let rest : (each_first ns ≡ ns) × (length ns ≡ length ts) = all_different texts ns ts others parts.1 in
    let new : has_name n ns ≡ false = other_name texts n t ns ts here others (not-true (list_any (bytes_eq t) ts) parts.0) in
    (ap (λ ms. n ∷ without_name n ms) rest.0 ∙ ap (λ ms. n ∷ ms) (without-other n ns new), ap suc rest.1)

-- what the built-in classes of a precedence list say of slots, by their texts
said_texts : List ℕ → List (List ℕ)
said_texts [] = []
said_texts (c ∷ cs) = said_texts cs ++ built_in_own c

SayBuiltIn : List (List ℕ) → List (List SlotRow) → Type 0
SayBuiltIn texts own = (c : ℕ) (slots : List SlotRow) → slice_get own c ≡ Some slots → SaysSlots texts (built_in_own c) slots

said-texts : (texts : List (List ℕ)) (own : List (List SlotRow)) (line : List ℕ) → ((c : ℕ) (slots : List SlotRow) → slice_get own c ≡ Some slots → SaysSlots texts (built_in_own c) slots)
    → All (λ d. d < length own) line → texts_of texts (names_of (said_by own line)) ≡ map (λ t. Some t) (said_texts line)
unfolding said_texts
said-texts texts own [] s a = refl
said-texts texts own (c ∷ line) s a =
    let P : ℕ → Type 0 = λ d. d < length own in
    let there : slice_get own c ≡ Some (get_or own c []) = slice_get-get_or own c [] (All-head P c line a) in
    let mine : texts_of texts (names_of (own_slots own c)) ≡ map (λ t. Some t) (built_in_own c) =
    rw there ((s c (get_or own c []) there).names_are) in
    ap (texts_of texts) (names-append (said_by own line) (own_slots own c))
    ∙ texts-append texts (names_of (said_by own line)) (names_of (own_slots own c))
    ∙ rw (said-texts texts own line s (All-tail P c line a), mine) (sym (some-append (said_texts line) (built_in_own c)))

-- the table of built-in classes, looked through once
is_good : ℕ → List ℕ → ℕ → Bool
is_good c [] n = false
is_good c (d ∷ ds) n =
    list_all (λ e. nat_lt e c) ds && length (said_texts (d ∷ ds)) == n && nat_le n slot_limit && all_differ bytes_eq (said_texts (d ∷ ds))

all_good : ℕ → List (List ℕ) → List ℕ → Bool
all_good c [] [] = true
all_good c [] (n ∷ ns) = false
all_good c (p ∷ ps) [] = false
all_good c (p ∷ ps) (n ∷ ns) = is_good c p n && all_good (c + 1) ps ns

table_good : all_good 0 built_in_precedence built_in_slots ≡ true
unfolding all_good is_good said_texts
table_good = refl

good-at : (k : ℕ) (ps : List (List ℕ)) (ns : List ℕ) (i : ℕ) (p : List ℕ) → all_good k ps ns ≡ true → slice_get ps i ≡ Some p
    → (n : ℕ) × (slice_get ns i ≡ Some n) × (is_good (k + i) p n ≡ true)
unfolding all_good
good-at k [] ns i p a h = absurd (cc)
good-at k (q ∷ ps) [] i p a h = absurd (cc)
good-at k (q ∷ ps) (n ∷ ns) zero p a h =
    let e : q ≡ p = cc in
    let g : is_good k q n ≡ true = (and_parts (is_good k q n) (all_good (k + 1) ps ns) a).0 in
    (n, refl, rw add-zero (subst (λ x. is_good k x n ≡ true) e g))
good-at k (q ∷ ps) (n ∷ ns) (suc i) p a h =
    let r : (m : ℕ) × (slice_get ns i ≡ Some m) × (is_good (k + 1 + i) p m ≡ true) = good-at (k + 1) ps ns i p (and_parts (is_good k q n) (all_good (k + 1) ps ns) a).1 h in
    let e : k + 1 + i ≡ k + suc i = omega arith in
    (r.0, r.1, subst (λ x. is_good x p r.0 ≡ true) e r.2)

-- a name that is not there yet

named-some : (rows : List ClassRow) (n : Name) (c : ℕ) → class_named rows n ≡ Some c
    → (row : ClassRow) × (slice_get rows c ≡ Some row) × (same_name n row.name ≡ true)
named-some [] n c h = absurd (cc)
named-some (r ∷ rows) n c h = by (same_name n r.name) (class_named rows n) refl refl (λ k e. named-some rows n k e) h
  where
    by : (b : Bool) (o : Option ℕ) → same_name n r.name ≡ b → class_named rows n ≡ o
        → ((k : ℕ) → class_named rows n ≡ Some k → (row : ClassRow) × (slice_get rows k ≡ Some row) × (same_name n row.name ≡ true))
        → (if b then Some 0 else option_map (λ k. k + 1) o) ≡ Some c
        → (row : ClassRow) × (slice_get (r ∷ rows) c ≡ Some row) × (same_name n row.name ≡ true)
    by true o s e f h = let z : 0 ≡ c = cc in (r, rw (← z) refl, s)
    by false None s e f h = absurd (cc)
    by false (Some k) s e f h =
        let z : k + 1 ≡ c = cc in
        let w : (row : ClassRow) × (slice_get rows k ≡ Some row) × (same_name n row.name ≡ true) = f k e in
        (w.0, rw (← z) (rw add-one w.1), w.2)

list_any-get : {X : Type 0} (p : X → Bool) (xs : List X) (i : ℕ) (x : X) → slice_get xs i ≡ Some x → p x ≡ true → list_any p xs ≡ true
list_any-get p [] i x h a = absurd (cc)
list_any-get p (y ∷ ys) zero x h a = let e : y ≡ x = cc in rw (e, a) refl
list_any-get p (y ∷ ys) (suc i) x h a = rw (list_any-get p ys i x h a) (by (p y))
  where
    by : (b : Bool) → (b || true) ≡ true
    by true = refl
    by false = refl

differ-at : (ts : List (List ℕ)) (i j : ℕ) (t : List ℕ) → all_differ bytes_eq ts ≡ true → slice_get ts i ≡ Some t → slice_get ts j ≡ Some t → i < j → ⊥
differ-at [] i j t d h k l = cc
differ-at (s ∷ ts) i zero t d h k l = omega arith
differ-at (s ∷ ts) zero (suc j) t d h k l =
    let e : s ≡ t = cc in
    let same : bytes_eq s t ≡ true = subst (λ u. bytes_eq u t ≡ true) (sym e) (bytes_eq-refl t) in
    let there : list_any (bytes_eq s) ts ≡ true = list_any-get (bytes_eq s) ts j t k same in
    let absent : list_any (bytes_eq s) ts ≡ false = not-true (list_any (bytes_eq s) ts) (and_parts (not (list_any (bytes_eq s) ts)) (all_differ bytes_eq ts) d).0 in
    cc
differ-at (s ∷ ts) (suc i) (suc j) t d h k l =
    differ-at ts i j t (and_parts (not (list_any (bytes_eq s) ts)) (all_differ bytes_eq ts) d).1 h k (omega arith)

texts_differ : all_differ bytes_eq class_texts ≡ true
texts_differ = refl

module _ (texts : List (List ℕ)) (h : Hierarchy) (n : ℕ) (first : AreFirst texts h n) (below : n < 34) (row : ClassRow) (own : List SlotRow)
    (name_is : slice_get texts row.name.0 ≡ slice_get class_texts n) where
  name_new : class_named h.rows row.name ≡ None
  name_new = by (class_named h.rows row.name) refl
    where
      text_there : slice_get class_texts n ≡ Some (get_or class_texts n [])
      text_there = slice_get-get_or class_texts n [] below

      by : (o : Option ℕ) → class_named h.rows row.name ≡ o → o ≡ None
      by None e = refl
      by (Some c) e =
          let w : (r : ClassRow) × (slice_get h.rows c ≡ Some r) × (same_name row.name r.name ≡ true) = named-some h.rows row.name c e in
          let less : c < n = omega (arith, slice_get_within h.rows c w.0 w.1, first.number) in
          let same : row.name.0 ≡ w.0.name.0 = eqb-true row.name.0 w.0.name.0 w.2 in
          let other : slice_get class_texts c ≡ Some (get_or class_texts n []) =
          sym (first.named.names c w.0 w.1) ∙ ap (slice_get texts) (sym same) ∙ name_is ∙ text_there in
          absurd (differ-at class_texts c n (get_or class_texts n []) texts_differ other text_there less)

  module _ (says : SaysSlots texts (built_in_own n) own) (precedence_is : slice_get built_in_precedence n ≡ Some row.precedence)
      (made : AreSlotsOf h.own own n row) (concrete : row.abstract_class ≡ false) where
    count : (m : ℕ) × (slice_get built_in_slots n ≡ Some m) × (is_good (0 + n) row.precedence m ≡ true)
    count = good-at 0 built_in_precedence built_in_slots n row.precedence table_good precedence_is

    all_say : (c : ℕ) (slots : List SlotRow) → slice_get (h.own ++ own ∷ []) c ≡ Some slots → SaysSlots texts (built_in_own c) slots
    all_say c slots e =
        ⊎_elim
        (λ front. first.named.own c slots front)
        (λ last.
        let at : c ≡ n = omega (arith, last.0, first.classes.paired, first.number) in
        let P : ℕ → List SlotRow → Type 0 = λ d s. SaysSlots texts (built_in_own d) s in
        subst (λ d. P d slots) (sym at) (subst (λ s. P n s) last.1 says))
        (slice_get-push h.own own c slots e)

    good : is_good n (n ∷ made.above) count.0 ≡ true
    good =
        let P : ℕ → List ℕ → Type 0 = λ c p. is_good c p count.0 ≡ true in
        let zero_less : 0 + n ≡ n = omega arith in
        subst (λ c. P c (n ∷ made.above)) zero_less (subst (λ p. P (0 + n) p) made.line count.2)

    above_less : All (λ d. d < n) made.above
    unfolding is_good
    above_less = all_less made.above (and_parts _ _ (and_parts _ _ (and_parts _ _ good).0).0).0
      where
        all_less : (cs : List ℕ) → list_all (λ e. nat_lt e n) cs ≡ true → All (λ d. d < n) cs
        all_less [] a = All-nil (λ d. d < n)
        all_less (c ∷ cs) a =
            let parts = and_parts (nat_lt c n) (list_all (λ e. nat_lt e n) cs) a in
            All-cons (λ d. d < n) c cs (ltb-true c n parts.0) (all_less cs parts.1)

    own_number : length h.own ≡ n
    own_number = first.classes.paired ∙ first.number

    slots_are : row.slots ≡ united (said_by (h.own ++ own ∷ []) row.precedence)
    slots_are =
        let in_own : All (λ d. d < length h.own) made.above = rw own_number above_less in
        made.slots ∙ ap united (sym (said-own h.own own made.above n (sym own_number) in_own)) ∙ ap (λ p. united (said_by (h.own ++ own ∷ []) p)) (sym made.line)

    line_less : All (λ d. d < length (h.own ++ own ∷ [])) (n ∷ made.above)
    line_less =
        let more : length (h.own ++ own ∷ []) ≡ n + 1 = length-append h.own (own ∷ []) ∙ ap (λ k. k + 1) own_number in
        rw more
        (All-cons (λ d. d < n + 1) n made.above (omega arith) (All-weaker (λ d. d < n) (λ d. d < n + 1) (λ d l. omega arith) made.above above_less))

    as_many : length row.slots ≡ count.0
    unfolding is_good
    as_many =
        let texts_are = said-texts texts (h.own ++ own ∷ []) (n ∷ made.above) all_say line_less in
        let differ = (and_parts _ _ good).1 in
        let apart = all_different texts (names_of (said_by (h.own ++ own ∷ []) (n ∷ made.above))) (said_texts (n ∷ made.above)) texts_are differ in
        let number : length (said_texts (n ∷ made.above)) ≡ count.0 = eqb-true _ _ (and_parts _ _ (and_parts _ _ (and_parts _ _ good).0).0).1 in
        ap length (slots_are ∙ ap (λ p. united (said_by (h.own ++ own ∷ []) p)) made.line)
        ∙ length-united (said_by (h.own ++ own ∷ []) (n ∷ made.above))
        ∙ ap length apart.0 ∙ apart.1 ∙ number

    few : length row.slots ≤ slot_limit
    unfolding is_good
    few = rw as_many (leb-true count.0 slot_limit (and_parts _ _ (and_parts _ _ good).0).1)

    row_right : IsRow h.rows (h.own ++ own ∷ []) (length h.rows) row
    row_right = record {
      in_range = rw (made.line, first.number)
          (All-cons (λ d. d ≤ n) n made.above (omega arith) (All-weaker (λ d. d < n) (λ d. d ≤ n) (λ d l. omega arith) made.above above_less));
      slots = slots_are;
      few = few;
      below = λ own_class. absurd (omega (arith, first.number));
    }

    -- one more of the first
    first_more : (h' : Hierarchy) → AreClasses h' → h' ≡ record { rows = h.rows ++ row ∷ []; own = h.own ++ own ∷ [] } → AreFirst texts h' (n + 1)
    first_more h' classes e =
        let rows : h'.rows ≡ h.rows ++ row ∷ [] = ap (λ k. k.rows) e in
        let owns : h'.own ≡ h.own ++ own ∷ [] = ap (λ k. k.own) e in
        record {
          classes = classes;
          number = ap length rows ∙ length-append h.rows (row ∷ []) ∙ ap (λ k. k + 1) first.number;
          built_in = λ c r there.
              ⊎_elim
              (λ front. first.built_in c r front)
              (λ last.
              let at : c ≡ n = last.0 ∙ first.number in
              subst (λ d. IsBuiltIn d r) (sym at) (subst (λ x. IsBuiltIn n x) last.1 (record { precedence = precedence_is; count = count.1 ∙ ap Some (sym as_many); concrete = concrete })))
              (slice_get-push h.rows row c r (ap (λ rs. slice_get rs c) (sym rows) ∙ there));
          named = record {
            names = λ c r there.
                ⊎_elim
                (λ front. first.named.names c r front)
                (λ last.
                let at : c ≡ n = last.0 ∙ first.number in
                ap (λ x. slice_get texts x.name.0) (sym last.1) ∙ name_is ∙ ap (slice_get class_texts) (sym at))
                (slice_get-push h.rows row c r (ap (λ rs. slice_get rs c) (sym rows) ∙ there));
            own = λ c slots there. all_say c slots (ap (λ os. slice_get os c) (sym owns) ∙ there);
          };
        }

-- the first classes in a later table of names
first_stays : (old new : List (List ℕ)) (h : Hierarchy) (n : ℕ) → n ≤ 34 → Extends old new → AreFirst old h n → AreFirst new h n
first_stays old new h n le x first = record {
  classes = first.classes;
  number = first.number;
  built_in = first.built_in;
  named = record {
    names = λ c row there.
        let below : c < 34 = omega (arith, slice_get_within h.rows c row there, first.number) in
        let text : slice_get class_texts c ≡ Some (get_or class_texts c []) = slice_get-get_or class_texts c [] below in
        text_stays old new row.name.0 (get_or class_texts c []) x (first.named.names c row there ∙ text) ∙ sym text;
    own = λ c slots there. says-stays old new (built_in_own c) slots x (first.named.own c slots there);
  };
}

-- all of them
pub all_first : (texts : List (List ℕ)) (h : Hierarchy) → AreFirst texts h 34 → AreBuiltIn texts h
all_first texts h first = record {
  hierarchy = record {
    classes = first.classes;
    enough = omega (arith, first.number);
    built_in = λ c row below there. first.built_in c row there;
  };
  number = first.number;
  named = first.named;
}

-- the next class may be added, and then they are one more
pub record IsNext (texts : List (List ℕ)) (h : Hierarchy) (n : ℕ) (row : ClassRow) (own : List SlotRow) : Type 0 where
  pub new : class_named h.rows row.name ≡ None
  pub right : IsRow h.rows (h.own ++ own ∷ []) (length h.rows) row
  pub more : (h' : Hierarchy) → AreClasses h' → h' ≡ record { rows = h.rows ++ row ∷ []; own = h.own ++ own ∷ [] } → AreFirst texts h' (n + 1)

pub next : (old mid new : List (List ℕ)) (h : Hierarchy) (n : ℕ) (name : Name) (row : ClassRow) (own : List SlotRow) → n < 34 → AreFirst old h n
    → Extends old mid → Extends mid new → slice_get mid name.0 ≡ slice_get class_texts n → SaysSlots new (built_in_own n) own
    → row.name ≡ name → slice_get built_in_precedence n ≡ Some row.precedence → AreSlotsOf h.own own n row → row.abstract_class ≡ false
    → IsNext new h n row own
next old mid new h n name row own below first x y named says same precedence_is made concrete =
    let text : slice_get class_texts n ≡ Some (get_or class_texts n []) = slice_get-get_or class_texts n [] below in
    let kept : slice_get new name.0 ≡ slice_get class_texts n = text_stays mid new name.0 (get_or class_texts n []) y (named ∙ text) ∙ sym text in
    let name_is : slice_get new row.name.0 ≡ slice_get class_texts n = ap (λ m. slice_get new m.0) same ∙ kept in
    let first' : AreFirst new h n = first_stays old new h n (omega arith) (Extends-then old mid new x y) first in
    record {
      new = name_new new h n first' below row own name_is;
      right = row_right new h n first' below row own name_is says precedence_is made concrete;
      more = first_more new h n first' below row own name_is says precedence_is made concrete;
    }
