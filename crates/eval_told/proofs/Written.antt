-- How a value is written, part by part.
use Rattle.std.proofs.Common.{◌≡◌, ℕ, suc, ◌+◌, ◌-◌, ◌<◌, length, Bor, ◌≤◌, Bool, true, false, List, [], ◌∷◌, ◌++◌, refl, sym, ap, subst, ◌∙◌, append_assoc, append-nil, arith}
use Rattle.std.specs.Prelude.{codes}
use Rattle.std.specs.List.{IsFirstAndRest}
use Rattle.lang_meaning.specs.Values.{Value}
use Rattle.lang_meaning.specs.Objects.{Object}
use Rattle.lang_taken.specs.Shapes.{Shape, shape_of, own_size, is_list}
use Rattle.lang_taken.specs.Shapes as shape
use Rattle.lang_told.specs.Spelled.{is_atom, atom_text}
use Rattle.lang_told.specs.Written.{Writes, writes_atom, writes_vector, writes_list, WritesElements, no_element, an_element, WritesChain, at_nil, at_cons, at_dot, blank}
use Rattle.lang_told.specs.Written.{IsUnwritten, is_no_datum, is_too_large, in_vector, in_list, AreUnwritten, in_element, behind_element, IsUnwrittenChain, in_car, in_cdr, behind_dot}
use Rattle.eval_store.specs.declared.store.Store.{Store}
use Rattle.eval_store.specs.declared.word.Word.{Word}
use Rattle.eval_store.specs.Words.{value_of_word, values_of}
use Rattle.eval_told.specs.declared.parts.Part.{Part}
use Rattle.eval_told.specs.declared.parts.Part.TheVariants.{Integer, Character, Named, Unnamed, New, Text, Vector, Nil, Cons, NoDatum}
use Rattle.eval_told.specs.Parts.{objects_of, shape_of_part, IsPartAt}
use Rattle.eval_told.specs.Attempts.{IsWritten, Attempted, AreWritten, AttemptedElements, IsWrittenChain, AttemptedChain}

-- ---- what is written takes of what is left

takes_some : (rest : ℕ) (s : Shape) → is_atom s ≡ true → rest < own_size s + rest
takes_some rest (shape.integer n) h = omega arith
takes_some rest (shape.character c) h = omega arith
takes_some rest (shape.symbol s) h = omega arith
takes_some rest (shape.new_symbol serial) h = omega arith
takes_some rest (shape.string bytes) h = omega arith
takes_some rest shape.nil h = omega arith
takes_some rest (shape.vector elements) h = absurd (cc h)
takes_some rest (shape.cons car cdr) h = absurd (cc h)
takes_some rest shape.no_datum h = absurd (cc h)

mutual
  pub writes_less : (objects : List Object) (left rest : ℕ) (s : Shape) (text : List ℕ) → Writes objects left s text rest → rest < left
  writes_less objects left rest s text (writes_atom _ _ h) = takes_some rest s h
  writes_less objects left rest s text (writes_vector inside _ elements t h) = omega (arith, elements_less objects [] inside rest elements t h)
  writes_less objects left rest s text (writes_list inside _ car cdr t h) = omega (arith, chain_less objects [] inside rest (shape.cons car cdr) t h)

  elements_less : (objects : List Object) (gap : List ℕ) (left rest : ℕ) (vs : List Value) (text : List ℕ) → WritesElements objects gap left vs text rest → rest ≤ left
  elements_less objects gap left rest vs text (no_element _ _) = omega arith
  elements_less objects gap left rest vs text (an_element _ _ middle _ v us t ts h k) =
      omega (arith, writes_less objects left middle (shape_of objects v) t h, elements_less objects blank middle rest us ts k)

  chain_less : (objects : List Object) (gap : List ℕ) (left rest : ℕ) (s : Shape) (text : List ℕ) → WritesChain objects gap left s text rest → rest ≤ left
  chain_less objects gap left rest s text (at_nil _ _) = omega arith
  chain_less objects gap left rest s text (at_cons _ _ middle _ car cdr t ts h k) =
      omega (arith, writes_less objects left middle (shape_of objects car) t h, chain_less objects blank middle rest (shape_of objects cdr) ts k)
  chain_less objects gap left rest s text (at_dot _ _ _ _ t other h) = omega (arith, writes_less objects left rest s t h)

-- ---- attempts of which it is known whether they wrote

pub written_of :
    (objects : List Object) (s : Shape) (left : ℕ) (old new : List ℕ) (rest : ℕ) (b : Bool) → b ≡ true → Attempted objects s left old new rest b
    → IsWritten objects s left old new rest
written_of objects s left old new rest b e h = subst (λ x. Attempted objects s left old new rest x) e h

pub unwritten_of :
    (objects : List Object) (s : Shape) (left : ℕ) (old new : List ℕ) (rest : ℕ) (b : Bool) → b ≡ false → Attempted objects s left old new rest b
    → IsUnwritten objects left s
unwritten_of objects s left old new rest b e h = subst (λ x. Attempted objects s left old new rest x) e h

pub less_of :
    (objects : List Object) (s : Shape) (left : ℕ) (old new : List ℕ) (rest : ℕ) (b : Bool) → b ≡ true → Attempted objects s left old new rest b
    → rest < left
less_of objects s left old new rest b e h =
    let w = written_of objects s left old new rest b e h in writes_less objects left rest s w.text w.writes

-- of another shape, with another size left
pub attempted_as :
    (objects : List Object) (s t : Shape) (left same : ℕ) (old new : List ℕ) (rest : ℕ) (b : Bool) → s ≡ t → left ≡ same
    → Attempted objects t same old new rest b → Attempted objects s left old new rest b
attempted_as objects s t left same old new rest b e k h =
    let P : Shape → Type 0 = λ x. Attempted objects x left old new rest b in
    let Q : ℕ → Type 0 = λ n. Attempted objects t n old new rest b in
    subst P (sym e) (subst Q (sym k) h)

-- ---- what has nothing inside

-- what is neither a vector nor a cons, nor no datum, has nothing inside
pub atom_of :
    (names : List (List ℕ)) (part : Part) → (part ≡ NoDatum → ⊥) → ((ws : Bor (List Word)) → part ≡ Vector ws → ⊥) → ((car cdr : Word) → part ≡ Cons car cdr → ⊥)
    → is_atom (shape_of_part names part) ≡ true
atom_of names (Integer n) p q r = refl
atom_of names (Character c) p q r = refl
atom_of names (Named name) p q r = refl
atom_of names (Unnamed expansion serial) p q r = refl
atom_of names (New serial) p q r = refl
atom_of names (Text bytes) p q r = refl
atom_of names (Vector ws) p q r = absurd (q ws refl)
atom_of names Nil p q r = refl
atom_of names (Cons car cdr) p q r = absurd (r car cdr refl)
atom_of names NoDatum p q r = absurd (p refl)

pub atom_written :
    (objects : List Object) (s : Shape) (left size : ℕ) (old new : List ℕ) → is_atom s ≡ true → size ≡ own_size s → size ≤ left → new ≡ old ++ atom_text s
    → IsWritten objects s left old new (left - size)
atom_written objects s left size old new atom e enough appended =
    let all : left ≡ own_size s + (left - size) = omega (arith, e, enough) in
    let P : ℕ → Type 0 = λ n. Writes objects n s (atom_text s) (left - size) in
    record { text = atom_text s; writes = subst P (sym all) (writes_atom (left - size) s atom); appended = appended }

pub too_large : (objects : List Object) (s : Shape) (left size : ℕ) → size ≡ own_size s → left < size → IsUnwritten objects left s
too_large objects s left size e less = is_too_large left s (omega (arith, e, less))

pub no_datum_unwritten : (objects : List Object) (names : List (List ℕ)) (part : Part) (left : ℕ) → part ≡ NoDatum → IsUnwritten objects left (shape_of_part names part)
no_datum_unwritten objects names part left e =
    let P : Part → Type 0 = λ p. IsUnwritten objects left (shape_of_part names p) in subst P (sym e) (is_no_datum left)

-- what a vector or a cons takes itself
pub one_taken :
    (names : List (List ℕ)) (part other : Part) (left size : ℕ) → part ≡ other → own_size (shape_of_part names other) ≡ 1 → size ≡ own_size (shape_of_part names part)
    → size ≤ left → left ≡ suc (left - size)
one_taken names part other left size is one e enough =
    let same : own_size (shape_of_part names part) ≡ own_size (shape_of_part names other) = ap (λ p. own_size (shape_of_part names p)) is in
    omega (arith, same, one, e, enough)

-- three texts one behind another
three : (old a front text inside z new : List ℕ) → front ≡ old ++ a → inside ≡ front ++ text → new ≡ inside ++ z → new ≡ old ++ (a ++ (text ++ z))
three old a front text inside z new p q r =
    r ∙ ap (λ xs. xs ++ z) (q ∙ ap (λ xs. xs ++ text) p ∙ append_assoc old a text) ∙ append_assoc old (a ++ text) z ∙ ap (λ xs. old ++ xs) (append_assoc a text z)

-- ---- vectors

pub vector_written :
    (objects : List Object) (vs : List Value) (left : ℕ) (old front inside new : List ℕ) (rest : ℕ) (b : Bool) → front ≡ old ++ codes "#("
    → AttemptedElements objects [] vs left front inside rest b → b ≡ true → new ≡ inside ++ codes ")"
    → Attempted objects (shape.vector vs) (suc left) old new rest b
vector_written objects vs left old front inside new rest true e h k end = record {
  text = codes "#(" ++ (h.text ++ codes ")");
  writes = writes_vector left rest vs h.text h.writes;
  appended = three old (codes "#(") front h.text inside (codes ")") new e h.appended end;
}
vector_written objects vs left old front inside new rest false e h k end = absurd (cc k)

pub vector_unwritten :
    (objects : List Object) (vs : List Value) (left : ℕ) (old front inside new : List ℕ) (rest : ℕ) (b : Bool) → AttemptedElements objects [] vs left front inside rest b
    → b ≡ false → Attempted objects (shape.vector vs) (suc left) old new rest b
vector_unwritten objects vs left old front inside new rest true h k = absurd (cc k)
vector_unwritten objects vs left old front inside new rest false h k = in_vector left vs h

-- ---- elements

no_values : (names : List (List ℕ)) (ws : List Word) → length ws ≡ 0 → values_of names ws ≡ []
no_values names [] h = refl
no_values names (w ∷ ws) h = absurd (omega (arith, h))

pub none_written :
    (objects : List Object) (names : List (List ℕ)) (gap : List ℕ) (ws : List Word) (left : ℕ) (old : List ℕ) → length ws ≡ 0
    → AreWritten objects gap (values_of names ws) left old old left
none_written objects names gap ws left old h =
    let P : List Value → Type 0 = λ vs. WritesElements objects gap left vs [] left in
    record { text = []; writes = subst P (sym (no_values names ws h)) (no_element gap left); appended = sym (append-nil old) }

elements_all :
    (objects : List Object) (gap : List ℕ) (v : Value) (vs : List Value) (left middle : ℕ) (old front inside new : List ℕ) (rest : ℕ) (b : Bool)
    → front ≡ old ++ gap → IsWritten objects (shape_of objects v) left front inside middle → AttemptedElements objects blank vs middle inside new rest b
    → AttemptedElements objects gap (v ∷ vs) left old new rest b
elements_all objects gap v vs left middle old front inside new rest true e w h = record {
  text = gap ++ (w.text ++ h.text);
  writes = an_element gap left middle rest v vs w.text h.text w.writes h.writes;
  appended = three old gap front w.text inside h.text new e w.appended h.appended;
}
elements_all objects gap v vs left middle old front inside new rest false e w h = behind_element left middle v vs w.text w.writes h

pub elements_go_on :
    (objects : List Object) (names : List (List ℕ)) (gap : List ℕ) (ws : List Word) (w : Word) (us : List Word) (left middle : ℕ) (old front inside new : List ℕ) (rest : ℕ)
    (b c : Bool) → IsFirstAndRest ws w us → front ≡ old ++ gap → Attempted objects (shape_of objects (value_of_word names w)) left front inside middle b → b ≡ true
    → AttemptedElements objects blank (values_of names us) middle inside new rest c → AttemptedElements objects gap (values_of names ws) left old new rest c
elements_go_on objects names gap ws w us left middle old front inside new rest b c are e first k h =
    let P : List Word → Type 0 = λ xs. AttemptedElements objects gap (values_of names xs) left old new rest c in
    subst P (sym are.0)
    (elements_all objects gap (value_of_word names w) (values_of names us) left middle old front inside new rest c e
    (written_of objects (shape_of objects (value_of_word names w)) left front inside middle b k first) h)

pub elements_stop :
    (objects : List Object) (names : List (List ℕ)) (ws : List Word) (w : Word) (us : List Word) (left middle : ℕ) (front inside : List ℕ) (b : Bool) → IsFirstAndRest ws w us
    → Attempted objects (shape_of objects (value_of_word names w)) left front inside middle b → b ≡ false → AreUnwritten objects left (values_of names ws)
elements_stop objects names ws w us left middle front inside b are first k =
    let P : List Word → Type 0 = λ xs. AreUnwritten objects left (values_of names xs) in
    subst P (sym are.0)
    (in_element left (value_of_word names w) (values_of names us)
    (unwritten_of objects (shape_of objects (value_of_word names w)) left front inside middle b k first))

-- ---- lists

pub list_written :
    (objects : List Object) (car cdr : Value) (left : ℕ) (old front inside new : List ℕ) (rest : ℕ) (b : Bool) → front ≡ old ++ codes "("
    → AttemptedChain objects [] (shape.cons car cdr) left front inside rest b → b ≡ true → new ≡ inside ++ codes ")"
    → Attempted objects (shape.cons car cdr) (suc left) old new rest b
list_written objects car cdr left old front inside new rest true e h k end = record {
  text = codes "(" ++ (h.text ++ codes ")");
  writes = writes_list left rest car cdr h.text h.writes;
  appended = three old (codes "(") front h.text inside (codes ")") new e h.appended end;
}
list_written objects car cdr left old front inside new rest false e h k end = absurd (cc k)

pub list_unwritten :
    (objects : List Object) (car cdr : Value) (left : ℕ) (old front inside new : List ℕ) (rest : ℕ) (b : Bool)
    → AttemptedChain objects [] (shape.cons car cdr) left front inside rest b → b ≡ false → Attempted objects (shape.cons car cdr) (suc left) old new rest b
list_unwritten objects car cdr left old front inside new rest true h k = absurd (cc k)
list_unwritten objects car cdr left old front inside new rest false h k = in_list left car cdr h

-- ---- chains of conses

pub chain_ends :
    (objects : List Object) (names : List (List ℕ)) (gap : List ℕ) (part : Part) (left : ℕ) (old : List ℕ) → part ≡ Nil
    → IsWrittenChain objects gap (shape_of_part names part) left old old left
chain_ends objects names gap part left old is =
    let P : Part → Type 0 = λ p. WritesChain objects gap left (shape_of_part names p) [] left in
    record { text = []; writes = subst P (sym is) (at_nil gap left); appended = sym (append-nil old) }

chain_all :
    (objects : List Object) (gap : List ℕ) (car cdr : Value) (left middle : ℕ) (old front inside new : List ℕ) (rest : ℕ) (b : Bool) → front ≡ old ++ gap
    → IsWritten objects (shape_of objects car) left front inside middle → AttemptedChain objects blank (shape_of objects cdr) middle inside new rest b
    → AttemptedChain objects gap (shape.cons car cdr) left old new rest b
chain_all objects gap car cdr left middle old front inside new rest true e w h = record {
  text = gap ++ (w.text ++ h.text);
  writes = at_cons gap left middle rest car cdr w.text h.text w.writes h.writes;
  appended = three old gap front w.text inside h.text new e w.appended h.appended;
}
chain_all objects gap car cdr left middle old front inside new rest false e w h = in_cdr left middle car cdr w.text w.writes h

pub chain_goes_on :
    (s : Store) (names : List (List ℕ)) (gap : List ℕ) (part behind : Part) (car cdr : Word) (left middle : ℕ) (old front inside new : List ℕ) (rest : ℕ) (b c : Bool)
    → part ≡ Cons car cdr → front ≡ old ++ gap → Attempted (objects_of names s) (shape_of (objects_of names s) (value_of_word names car)) left front inside middle b
    → b ≡ true → IsPartAt names s cdr behind → AttemptedChain (objects_of names s) blank (shape_of_part names behind) middle inside new rest c
    → AttemptedChain (objects_of names s) gap (shape_of_part names part) left old new rest c
chain_goes_on s names gap part behind car cdr left middle old front inside new rest b c is e first k found h =
    let objects : List Object = objects_of names s in
    let P : Part → Type 0 = λ p. AttemptedChain objects gap (shape_of_part names p) left old new rest c in
    let Q : Shape → Type 0 = λ x. AttemptedChain objects blank x middle inside new rest c in
    subst P (sym is)
    (chain_all objects gap (value_of_word names car) (value_of_word names cdr) left middle old front inside new rest c e
    (written_of objects (shape_of objects (value_of_word names car)) left front inside middle b k first) (subst Q (sym found.shape) h))

pub chain_stops :
    (objects : List Object) (names : List (List ℕ)) (part : Part) (car cdr : Word) (left middle : ℕ) (front inside : List ℕ) (b : Bool) → part ≡ Cons car cdr
    → Attempted objects (shape_of objects (value_of_word names car)) left front inside middle b → b ≡ false → IsUnwrittenChain objects left (shape_of_part names part)
chain_stops objects names part car cdr left middle front inside b is first k =
    let P : Part → Type 0 = λ p. IsUnwrittenChain objects left (shape_of_part names p) in
    subst P (sym is)
    (in_car left (value_of_word names car) (value_of_word names cdr)
    (unwritten_of objects (shape_of objects (value_of_word names car)) left front inside middle b k first))

no_list : (names : List (List ℕ)) (part : Part) → (part ≡ Nil → ⊥) → ((car cdr : Word) → part ≡ Cons car cdr → ⊥) → is_list (shape_of_part names part) ≡ false
no_list names (Integer n) p q = refl
no_list names (Character c) p q = refl
no_list names (Named name) p q = refl
no_list names (Unnamed expansion serial) p q = refl
no_list names (New serial) p q = refl
no_list names (Text bytes) p q = refl
no_list names (Vector ws) p q = refl
no_list names Nil p q = absurd (p refl)
no_list names (Cons car cdr) p q = absurd (q car cdr refl)
no_list names NoDatum p q = refl

dotted :
    (objects : List Object) (gap : List ℕ) (s : Shape) (left : ℕ) (old front new : List ℕ) (rest : ℕ) (b : Bool) → is_list s ≡ false → front ≡ old ++ codes " . "
    → Attempted objects s left front new rest b → AttemptedChain objects gap s left old new rest b
dotted objects gap s left old front new rest true other e h = record {
  text = codes " . " ++ h.text;
  writes = at_dot gap left rest s h.text other h.writes;
  appended = h.appended ∙ ap (λ xs. xs ++ h.text) e ∙ append_assoc old (codes " . ") h.text;
}
dotted objects gap s left old front new rest false other e h = behind_dot left s other h

pub chain_dotted :
    (objects : List Object) (names : List (List ℕ)) (gap : List ℕ) (part : Part) (left : ℕ) (old front new : List ℕ) (rest : ℕ) (b : Bool) → (part ≡ Nil → ⊥)
    → ((car cdr : Word) → part ≡ Cons car cdr → ⊥) → front ≡ old ++ codes " . " → Attempted objects (shape_of_part names part) left front new rest b
    → AttemptedChain objects gap (shape_of_part names part) left old new rest b
chain_dotted objects names gap part left old front new rest b p q e h =
    dotted objects gap (shape_of_part names part) left old front new rest b (no_list names part p q) e h
