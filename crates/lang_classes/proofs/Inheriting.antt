-- A class has each slot once, and each slot of the classes above it.
use Rattle.std.proofs.Common.{◌≡◌, ℕ, zero, suc, ◌+◌, ◌==◌, ◌<◌, ◌≤◌, Bool, true, false, not, ◌&&◌, cond, List, [], ◌∷◌, ◌++◌, Option, Some, None, take, slice_get, if◌then◌else◌, refl, sym, ap, ◌∙◌, arith, ◌||◌}
use Rattle.std.proofs.lemmas.Bool.Decides.{nat_tests}
use Rattle.base.specs.declared.datum.Name.{Name}
use Rattle.lang_meaning.specs.declared.program.ClassRow.{ClassRow}
use Rattle.lang_meaning.specs.declared.program.SlotRow.{SlotRow}
use Rattle.lang_meaning.specs.Classes.{precedence_of}
use Rattle.lang_meaning.specs.Lookup.{all_differ, is_in}
use Rattle.lang_classes.specs.InheritedSlots.{same_name, has_name, without_name, each_first, names_of, slots_of, said_by, own_slots, slots_said_by, united}
use Rattle.lang_classes.specs.InheritedClasses.{Hierarchy, IsHierarchy}
use Rattle.lang_classes.specs.Lines.{line, slots_named, names_in}
use Rattle.lang_classes.proofs.Defining.{names-append}
use Rattle.lang_classes.proofs.Ordering.{number_is, or_right, through, no_higher}

-- names

named_is : (m n : Name) → same_name m n ≡ true → m.0 ≡ n.0
named_is m n e = number_is m.0 n.0 e

same_turns : (k m n : Name) → same_name k m ≡ false → same_name m n ≡ true → same_name k n ≡ false
same_turns k m n e f = ap (λ x. k.0 == x) (sym (named_is m n f)) ∙ e

-- taking a name away leaves the others
has_without : (k m : Name) (ns : List Name) → same_name k m ≡ false → has_name k (without_name m ns) ≡ has_name k ns
has_without k m [] e = refl
has_without k m (n ∷ ns) e = by (has_without k m ns e) (same_name m n) refl
  where
    by : has_name k (without_name m ns) ≡ has_name k ns → (b : Bool) → same_name m n ≡ b
        → has_name k (cond (not b) (n ∷ without_name m ns) (without_name m ns)) ≡ (same_name k n || has_name k ns)
    by rest true f = rest ∙ ap (λ b. b || has_name k ns) (sym (same_turns k m n e f))
    by rest false f = ap (λ b. same_name k n || b) rest

has_first : (k : Name) (ns : List Name) → has_name k (each_first ns) ≡ has_name k ns
has_first k [] = refl
has_first k (n ∷ ns) = by (has_first k ns) (same_name k n) refl
  where
    by : has_name k (each_first ns) ≡ has_name k ns → (b : Bool) → same_name k n ≡ b
        → (b || has_name k (without_name n (each_first ns))) ≡ (b || has_name k ns)
    by rest true e = refl
    by rest false e = has_without k n (each_first ns) e ∙ rest

-- each once
gone : (m : Name) (ns : List Name) → has_name m (without_name m ns) ≡ false
gone m [] = refl
gone m (n ∷ ns) = by (gone m ns) (same_name m n) refl
  where
    by : has_name m (without_name m ns) ≡ false → (b : Bool) → same_name m n ≡ b
        → has_name m (cond (not b) (n ∷ without_name m ns) (without_name m ns)) ≡ false
    by rest true e = rest
    by rest false e = ap (λ b. b || has_name m (without_name m ns)) e ∙ rest

fewer : (k m : Name) (ns : List Name) → has_name k ns ≡ false → has_name k (without_name m ns) ≡ false
fewer k m [] h = refl
fewer k m (n ∷ ns) h = by (λ l. fewer k m ns l) (same_name k n) refl h
  where
    by : (has_name k ns ≡ false → has_name k (without_name m ns) ≡ false) → (b : Bool) → same_name k n ≡ b
        → (b || has_name k ns) ≡ false → has_name k (without_name m (n ∷ ns)) ≡ false
    by rest true e l = absurd (cc)
    by rest false e l =
        elim (same_name m n) as (λ c. has_name k (cond (not c) (n ∷ without_name m ns) (without_name m ns)) ≡ false) [
          | true ↦ rest l
          | false ↦ ap (λ b. b || has_name k (without_name m ns)) e ∙ rest l
        ]

not_true : (b : Bool) → not b ≡ true → b ≡ false
not_true true h = absurd (cc)
not_true false h = refl

once_without : (m : Name) (ns : List Name) → all_differ same_name ns ≡ true → all_differ same_name (without_name m ns) ≡ true
once_without m [] h = refl
once_without m (n ∷ ns) h = by (λ l. once_without m ns l) (has_name n ns) refl h
  where
    by : (all_differ same_name ns ≡ true → all_differ same_name (without_name m ns) ≡ true) → (b : Bool) → has_name n ns ≡ b
        → (not b && all_differ same_name ns) ≡ true → all_differ same_name (without_name m (n ∷ ns)) ≡ true
    by rest true e l = absurd (cc)
    by rest false e l =
        let none : has_name n (without_name m ns) ≡ false = fewer n m ns e in
        let others : all_differ same_name (without_name m ns) ≡ true = rest l in
        elim (same_name m n) as (λ c. all_differ same_name (cond (not c) (n ∷ without_name m ns) (without_name m ns)) ≡ true) [
          | true ↦ others
          | false ↦ rw (none, others) refl
        ]

once_first : (ns : List Name) → all_differ same_name (each_first ns) ≡ true
once_first [] = refl
once_first (n ∷ ns) =
    let none : has_name n (without_name n (each_first ns)) ≡ false = gone n (each_first ns) in
    let others : all_differ same_name (without_name n (each_first ns)) ≡ true = once_without n (each_first ns) (once_first ns) in
    rw (none, others) refl

-- the names of slots that are united
names_united : (said : List SlotRow) → names_of (united said) ≡ each_first (names_of said)
unfolding united
names_united said = by (each_first (names_of said))
  where
    by : (ns : List Name) → names_of (slots_of said ns) ≡ ns
    by [] = refl
    by (n ∷ ns) = ap (λ ms. n ∷ ms) (by ns)

-- what is said by some class of a list

pub record IsSaid (own : List (List SlotRow)) (classes : List ℕ) (n : Name) : Type 0 where
  pub class : ℕ
  pub there : is_in class classes ≡ true
  pub says : has_name n (names_of (own_slots own class)) ≡ true

has_append : (k : Name) (ms ns : List Name) → has_name k (ms ++ ns) ≡ (has_name k ms || has_name k ns)
has_append k [] ns = refl
has_append k (m ∷ ms) ns =
    let rest : has_name k (ms ++ ns) ≡ (has_name k ms || has_name k ns) = has_append k ms ns in
    elim (same_name k m) as (λ b. (b || has_name k (ms ++ ns)) ≡ ((b || has_name k ms) || has_name k ns)) [ true ↦ refl | false ↦ rest ]

said_more : (own : List (List SlotRow)) (c : ℕ) (cs : List ℕ) (n : Name)
    → has_name n (names_of (said_by own (c ∷ cs))) ≡ (has_name n (names_of (said_by own cs)) || has_name n (names_of (own_slots own c)))
said_more own c cs n =
    ap (has_name n) (names-append (said_by own cs) (own_slots own c)) ∙ has_append n (names_of (said_by own cs)) (names_of (own_slots own c))

from_said : (own : List (List SlotRow)) (cs : List ℕ) (n : Name) → has_name n (names_of (said_by own cs)) ≡ true → IsSaid own cs n
from_said own [] n h = absurd (cc)
from_said own (c ∷ cs) n h = by (λ l. from_said own cs n l) (has_name n (names_of (said_by own cs))) refl (sym (said_more own c cs n) ∙ h)
  where
    by : (has_name n (names_of (said_by own cs)) ≡ true → IsSaid own cs n) → (b : Bool) → has_name n (names_of (said_by own cs)) ≡ b
        → (b || has_name n (names_of (own_slots own c))) ≡ true → IsSaid own (c ∷ cs) n
    by rest true e l = let r = rest e in record { class = r.class; there = or_right (r.class == c) (is_in r.class cs) r.there; says = r.says }
    by rest false e l =
        let here : (c == c) ≡ true = grind (arith, nat_tests) in
        record { class = c; there = ap (λ b. b || is_in c cs) here; says = l }

into_said : (own : List (List SlotRow)) (cs : List ℕ) (n : Name) (e : ℕ) → is_in e cs ≡ true → has_name n (names_of (own_slots own e)) ≡ true
    → has_name n (names_of (said_by own cs)) ≡ true
into_said own [] n e h k = absurd (cc)
into_said own (c ∷ cs) n e h k = by (λ l. into_said own cs n e l k) (e == c) refl h
  where
    by : (is_in e cs ≡ true → has_name n (names_of (said_by own cs)) ≡ true) → (b : Bool) → (e == c) ≡ b → (b || is_in e cs) ≡ true
        → has_name n (names_of (said_by own (c ∷ cs))) ≡ true
    by rest true f l =
        let here : has_name n (names_of (own_slots own c)) ≡ true = ap (λ d. has_name n (names_of (own_slots own d))) (sym (number_is e c f)) ∙ k in
        said_more own c cs n ∙ or_right (has_name n (names_of (said_by own cs))) (has_name n (names_of (own_slots own c))) here
    by rest false f l =
        said_more own c cs n ∙ ap (λ b. b || has_name n (names_of (own_slots own c))) (rest l)

taken_slots : (n : ℕ) (own : List (List SlotRow)) (e : ℕ) → e < n → slice_get (take n own) e ≡ slice_get own e
taken_slots zero own e l = absurd (omega arith)
taken_slots (suc n) [] e l = refl
taken_slots (suc n) (o ∷ own) zero l = refl
taken_slots (suc n) (o ∷ own) (suc e) l = taken_slots n own e (omega arith)

pub record HasSlots (o : Option ClassRow) (n : Name) : Type 0 where
  pub row : ClassRow
  pub is : o ≡ Some row
  pub holds : has_name n (names_of row.slots) ≡ true

has_slots : (o : Option ClassRow) (n : Name) → has_name n (names_in o) ≡ true → HasSlots o n
has_slots None n h = absurd (cc)
has_slots (Some row) n h = record { row = row; is = refl; holds = h }

module _ (h : Hierarchy) (x : IsHierarchy h) where
  names_said : (c : ℕ) (row : ClassRow) → slice_get h.rows c ≡ Some row
      → names_of row.slots ≡ each_first (names_of (said_by (take (c + 1) h.own) row.precedence))
  names_said c row is = ap names_of (x.classes.right c row is).slots ∙ names_united (said_by (take (c + 1) h.own) row.precedence)

  pub slots_once : (c : ℕ) → all_differ same_name (slots_named h c) ≡ true
  slots_once c = by (slice_get h.rows c) refl
    where
      by : (o : Option ClassRow) → slice_get h.rows c ≡ o → all_differ same_name (names_in o) ≡ true
      by None e = refl
      by (Some row) e =
          ap (all_differ same_name) (names_said c row e) ∙ once_first (names_of (said_by (take (c + 1) h.own) row.precedence))

  pub inherits : (c d : ℕ) (n : Name) → is_in d (line h c) ≡ true → has_name n (slots_named h d) ≡ true → has_name n (slots_named h c) ≡ true
  inherits c d n p q =
      let below : d ≤ c = no_higher h x c d p in
      let at_d = has_slots (slice_get h.rows d) n q in
      let said = from_said (take (d + 1) h.own) at_d.row.precedence n
      (sym (has_first n (names_of (said_by (take (d + 1) h.own) at_d.row.precedence))) ∙ ap (has_name n) (sym (names_said d at_d.row at_d.is)) ∙ at_d.holds) in
      let in_d : is_in said.class (line h d) ≡ true = ap (λ o. is_in said.class (precedence_of o)) at_d.is ∙ said.there in
      let in_c : is_in said.class (line h c) ≡ true = through h c d said.class x p in_d in
      let low : said.class ≤ d = no_higher h x d said.class in_d in
      let slots : slice_get (take (c + 1) h.own) said.class ≡ slice_get (take (d + 1) h.own) said.class =
      taken_slots (c + 1) h.own said.class (omega arith) ∙ sym (taken_slots (d + 1) h.own said.class (omega arith)) in
      let says : has_name n (names_of (own_slots (take (c + 1) h.own) said.class)) ≡ true =
      ap (λ o. has_name n (names_of (slots_said_by o))) slots ∙ said.says in
      by (slice_get h.rows c) refl said.class in_c says
    where
      by : (o : Option ClassRow) → slice_get h.rows c ≡ o → (e : ℕ) → is_in e (precedence_of (slice_get h.rows c)) ≡ true
          → has_name n (names_of (own_slots (take (c + 1) h.own) e)) ≡ true → has_name n (names_in o) ≡ true
      by None is e there says = absurd (let none : is_in e (precedence_of None) ≡ true = ap (λ o. is_in e (precedence_of o)) (sym is) ∙ there in cc)
      by (Some row) is e there says =
          let holds : is_in e row.precedence ≡ true = ap (λ o. is_in e (precedence_of o)) (sym is) ∙ there in
          ap (has_name n) (names_said c row is)
          ∙ has_first n (names_of (said_by (take (c + 1) h.own) row.precedence))
          ∙ into_said (take (c + 1) h.own) row.precedence n e holds says
