-- What a store is seen as once a part of an object is set.
use Rattle.std.proofs.Common.{◌≡◌, ℕ, zero, suc, ◌<◌, ◌≤◌, List, [], ◌∷◌, length, Option, Some, None, get_or, refl, sym, ◌∙◌, ap, arith}
use Rattle.std.specs.Prelude.{slice_get, slice_set, option_map}
use Rattle.std.specs.Vec.{with_item}
use Rattle.std.proofs.lemmas.List.{length-map}
use Rattle.std.proofs.lemmas.Option.{slice_get_read, slice_get-map, slice_get_past}
use Rattle.lang_meaning.specs.Values.{Value}
use Rattle.lang_meaning.specs.Objects as objects
use Rattle.lang_meaning.specs.Primitives.{as_cons, as_string, as_vector, as_instance, change}
use Rattle.lang_meaning.specs.Classes.{fetch}
use Rattle.lang_meaning.specs.Signals.{marked, marked_at}
use Rattle.flat_language.specs.FlatState.{on_state}
use Rattle.eval_store.specs.declared.word.Word.{Word}
use Rattle.eval_store.specs.declared.word.Word.TheVariants as word
use Rattle.eval_store.specs.declared.object.Instance.{Instance}
use Rattle.eval_store.specs.declared.object.Object.{Object}
use Rattle.eval_store.specs.declared.object.Object.TheVariants.{Cons, Text, Vector, Function, Closure, Generic, Class, InputStream, OutputStream, FreshSymbol}
use Rattle.eval_store.specs.declared.object.Object.TheVariants as made
use Rattle.eval_store.specs.declared.store.Store.{Store}
use Rattle.eval_store.specs.Words.{value_of_word, values_of, value_or_none, slots_of, object_of, captured_by}
use Rattle.eval_store.specs.View.{Beside, state_of, seen}
use Rattle.eval_store.proofs.Capturing.{mapped_set}
use Rattle.eval_store.proofs.Setting.{object_set, fetched_at}

-- a word's object was read
pub record ObjectIsRead (s : Store) (w : Word) (i : ℕ) (x : Object) : Type 0 where
  pub number : w ≡ word.Object i
  pub there : slice_get s.objects.items i ≡ Some x

pub reads : (s : Store) (w : Word) (i : ℕ) (x : Object) → w ≡ word.Object i → i < length s.objects.items → x ≡ get_or s.objects.items i x → ObjectIsRead s w i x
reads s w i x e inside is = record { number = e; there = slice_get_read s.objects.items (length s.objects.items) i x refl inside is }

-- what it is as the meaning sees it
seen_as : {X : Type 0} (as_kind : Option objects.Object → Option X) (names : List (List ℕ)) (b : Beside) (s : Store) (w : Word) (i : ℕ) (x : Object) (v : X)
    → ObjectIsRead s w i x → as_kind (fetch (state_of names s b) (value_of_word names w)) ≡ Some v → as_kind (Some (object_of names x)) ≡ Some v
seen_as as_kind names b s w i x v r h = ap as_kind (sym (fetched_at names b s w i x r.number r.there)) ∙ h

-- and the other way round
met : {X : Type 0} (as_kind : Option objects.Object → Option X) (names : List (List ℕ)) (b : Beside) (s : Store) (w : Word) (i : ℕ) (x : Object) (v : X)
    → ObjectIsRead s w i x → as_kind (Some (object_of names x)) ≡ Some v → as_kind (fetch (state_of names s b) (value_of_word names w)) ≡ Some v
met as_kind names b s w i x v r h = ap as_kind (fetched_at names b s w i x r.number r.there) ∙ h

-- an item in its own place
pub set_itself : {X : Type 0} (xs : List X) (i : ℕ) (x : X) → slice_get xs i ≡ Some x → slice_set xs i x ≡ xs
set_itself [] i x h = refl
set_itself (y ∷ ys) zero x h = ap (λ z. z ∷ ys) (cc)
set_itself (y ∷ ys) (suc i) x h = ap (λ zs. y ∷ zs) (set_itself ys i x h)

-- an object in its own place
pub unchanged : (names : List (List ℕ)) (b : Beside) (s : Store) (w : Word) (i : ℕ) (x o : Object) → ObjectIsRead s w i x → x ≡ o
    → seen names (record s { objects = with_item s.objects i o }) b ≡ seen names s b
unchanged names b s w i x o r is =
    let same : slice_set s.objects.items i o ≡ s.objects.items = set_itself s.objects.items i o (r.there ∙ ap (λ y. Some y) is) in
    rw same refl

-- conses
pub cons_there : (names : List (List ℕ)) (x : Object) (v : Value × Value) → as_cons (Some (object_of names x)) ≡ Some v
    → (p : Word × Word) × (x ≡ Cons p.0 p.1) × (value_of_word names p.0 ≡ v.0) × (value_of_word names p.1 ≡ v.1)
cons_there names (Cons a d) v h = ((a, d), refl, cc, cc)
cons_there names o v h = absurd (cc)

pub strings_there : (names : List (List ℕ)) (x : Object) (v : List ℕ) → as_string (Some (object_of names x)) ≡ Some v → x ≡ Text v
strings_there names (Text bytes) v h = cc
strings_there names o v h = absurd (cc)

pub vector_there : (names : List (List ℕ)) (x : Object) (v : List Value) → as_vector (Some (object_of names x)) ≡ Some v
    → (es : List Word) × (x ≡ Vector es) × (values_of names es ≡ v)
vector_there names (Vector es) v h = (es, refl, cc)
vector_there names o v h = absurd (cc)

pub instance_there : (names : List (List ℕ)) (x : Object) (v : ℕ × List (Option Value) × Value) → as_instance (Some (object_of names x)) ≡ Some v
    → (i : Instance) × (x ≡ made.Instance i) × (v ≡ (i.class, slots_of names i.slots, value_of_word names i.mark))
instance_there names (made.Instance i) v h = (i, refl, cc)
instance_there names o v h = absurd (cc)

-- the object is another one, at which the meaning changes it
put_seen : (names : List (List ℕ)) (b : Beside) (s : Store) (w : Word) (i : ℕ) (x o : Object) (to : objects.Object) → ObjectIsRead s w i x
    → captured_by names x ≡ None → captured_by names o ≡ None → object_of names o ≡ to
    → seen names (record s { objects = with_item s.objects i o }) b ≡ on_state (λ y. change (value_of_word names w) to y) (seen names s b)
put_seen names b s w i x o to r was now e =
    rw (r.number, ← e) (object_set names b s i x o r.there was now)

pub car_set : (names : List (List ℕ)) (b : Beside) (s : Store) (w : Word) (i : ℕ) (x : Object) (a d car : Word) (v : Value × Value)
    → ObjectIsRead s w i x → x ≡ Cons a d → as_cons (fetch (state_of names s b) (value_of_word names w)) ≡ Some v
    → seen names (record s { objects = with_item s.objects i (Cons car d) }) b
    ≡ on_state (λ y. change (value_of_word names w) (objects.cons (value_of_word names car) v.1) y) (seen names s b)
car_set names b s w i x a d car v r e h =
    let k : as_cons (Some (object_of names x)) ≡ Some v = seen_as as_cons names b s w i x v r h in
    let m : as_cons (Some (object_of names (Cons a d))) ≡ Some v = rw e at k in
    let same : value_of_word names d ≡ v.1 = cc in
    put_seen names b s w i x (Cons car d) (objects.cons (value_of_word names car) v.1) r (rw e refl) refl (ap (λ z. objects.cons (value_of_word names car) z) same)

pub cdr_set : (names : List (List ℕ)) (b : Beside) (s : Store) (w : Word) (i : ℕ) (x : Object) (a d cdr : Word) (v : Value × Value)
    → ObjectIsRead s w i x → x ≡ Cons a d → as_cons (fetch (state_of names s b) (value_of_word names w)) ≡ Some v
    → seen names (record s { objects = with_item s.objects i (Cons a cdr) }) b
    ≡ on_state (λ y. change (value_of_word names w) (objects.cons v.0 (value_of_word names cdr)) y) (seen names s b)
cdr_set names b s w i x a d cdr v r e h =
    let k : as_cons (Some (object_of names x)) ≡ Some v = seen_as as_cons names b s w i x v r h in
    let m : as_cons (Some (object_of names (Cons a d))) ≡ Some v = rw e at k in
    let same : value_of_word names a ≡ v.0 = cc in
    put_seen names b s w i x (Cons a cdr) (objects.cons v.0 (value_of_word names cdr)) r (rw e refl) refl (ap (λ z. objects.cons z (value_of_word names cdr)) same)

pub no_cons : (names : List (List ℕ)) (b : Beside) (s : Store) (w : Word) (i : ℕ) (x : Object) (v : Value × Value)
    → ObjectIsRead s w i x → ((a d : Word) → x ≡ Cons a d → ⊥) → as_cons (fetch (state_of names s b) (value_of_word names w)) ≡ Some v → ⊥
no_cons names b s w i x v r f h = let p = cons_there names x v (seen_as as_cons names b s w i x v r h) in f p.0.0 p.0.1 p.1

pub some_cons : (names : List (List ℕ)) (b : Beside) (s : Store) (w : Word) (i : ℕ) (x : Object) (a d : Word) → ObjectIsRead s w i x → x ≡ Cons a d
    → ((v : Value × Value) → as_cons (fetch (state_of names s b) (value_of_word names w)) ≡ Some v → ⊥) → ⊥
some_cons names b s w i x a d r e f = f (value_of_word names a, value_of_word names d) (met as_cons names b s w i x (value_of_word names a, value_of_word names d) r (rw e refl))

-- strings
pub byte_set : (names : List (List ℕ)) (b : Beside) (s : Store) (w : Word) (i : ℕ) (x : Object) (bytes later : List ℕ) (at byte : ℕ) (v : List ℕ)
    → ObjectIsRead s w i x → x ≡ Text bytes → later ≡ slice_set bytes at byte → as_string (fetch (state_of names s b) (value_of_word names w)) ≡ Some v
    → seen names (record s { objects = with_item s.objects i (Text later) }) b
    ≡ on_state (λ y. change (value_of_word names w) (objects.string (slice_set v at byte)) y) (seen names s b)
byte_set names b s w i x bytes later at byte v r e l h =
    let k : x ≡ Text v = strings_there names x v (seen_as as_string names b s w i x v r h) in
    let same : bytes ≡ v = cc in
    put_seen names b s w i x (Text later) (objects.string (slice_set v at byte)) r (rw e refl) refl (rw (l, same) refl)

pub no_byte : (names : List (List ℕ)) (b : Beside) (s : Store) (w : Word) (i : ℕ) (x : Object) (bytes : List ℕ) (n at : ℕ) (v : List ℕ)
    → ObjectIsRead s w i x → x ≡ Text bytes → n ≡ length bytes → n ≤ at → as_string (fetch (state_of names s b) (value_of_word names w)) ≡ Some v → at < length v → ⊥
no_byte names b s w i x bytes n at v r e len past h inside =
    let k : x ≡ Text v = strings_there names x v (seen_as as_string names b s w i x v r h) in
    let same : bytes ≡ v = cc in
    omega (arith, ap length same)

pub no_string : (names : List (List ℕ)) (b : Beside) (s : Store) (w : Word) (i : ℕ) (x : Object) (v : List ℕ)
    → ObjectIsRead s w i x → ((bytes : List ℕ) → x ≡ Text bytes → ⊥) → as_string (fetch (state_of names s b) (value_of_word names w)) ≡ Some v → ⊥
no_string names b s w i x v r f h = f v (strings_there names x v (seen_as as_string names b s w i x v r h))

pub some_byte : (names : List (List ℕ)) (b : Beside) (s : Store) (w : Word) (i : ℕ) (x : Object) (bytes : List ℕ) (n at : ℕ) → ObjectIsRead s w i x → x ≡ Text bytes → n ≡ length bytes → at < n
    → ((v : List ℕ) → as_string (fetch (state_of names s b) (value_of_word names w)) ≡ Some v → length v ≤ at) → ⊥
some_byte names b s w i x bytes n at r e len inside f =
    let past : length bytes ≤ at = f bytes (met as_string names b s w i x bytes r (rw e refl)) in
    omega arith

-- vectors
pub element_set : (names : List (List ℕ)) (b : Beside) (s : Store) (w : Word) (i : ℕ) (x : Object) (es later : List Word) (at : ℕ) (e : Word) (v : List Value)
    → ObjectIsRead s w i x → x ≡ Vector es → later ≡ slice_set es at e → as_vector (fetch (state_of names s b) (value_of_word names w)) ≡ Some v
    → seen names (record s { objects = with_item s.objects i (Vector later) }) b
    ≡ on_state (λ y. change (value_of_word names w) (objects.vector (slice_set v at (value_of_word names e))) y) (seen names s b)
element_set names b s w i x es later at e v r is l h =
    let k : as_vector (Some (object_of names x)) ≡ Some v = seen_as as_vector names b s w i x v r h in
    let m : as_vector (Some (object_of names (Vector es))) ≡ Some v = rw is at k in
    let same : values_of names es ≡ v = cc in
    put_seen names b s w i x (Vector later) (objects.vector (slice_set v at (value_of_word names e))) r (rw is refl) refl
    (rw (l, mapped_set (value_of_word names) es at e, same) refl)

pub no_element : (names : List (List ℕ)) (b : Beside) (s : Store) (w : Word) (i : ℕ) (x : Object) (es : List Word) (n at : ℕ) (v : List Value)
    → ObjectIsRead s w i x → x ≡ Vector es → n ≡ length es → n ≤ at → as_vector (fetch (state_of names s b) (value_of_word names w)) ≡ Some v → at < length v → ⊥
no_element names b s w i x es n at v r is len past h inside =
    let k : as_vector (Some (object_of names x)) ≡ Some v = seen_as as_vector names b s w i x v r h in
    let m : as_vector (Some (object_of names (Vector es))) ≡ Some v = rw is at k in
    let same : values_of names es ≡ v = cc in
    omega (arith, ap length same, length-map es (value_of_word names))

pub no_vector : (names : List (List ℕ)) (b : Beside) (s : Store) (w : Word) (i : ℕ) (x : Object) (v : List Value)
    → ObjectIsRead s w i x → ((es : List Word) → x ≡ Vector es → ⊥) → as_vector (fetch (state_of names s b) (value_of_word names w)) ≡ Some v → ⊥
no_vector names b s w i x v r f h = let p = vector_there names x v (seen_as as_vector names b s w i x v r h) in f p.0 p.1

pub some_element : (names : List (List ℕ)) (b : Beside) (s : Store) (w : Word) (i : ℕ) (x : Object) (es : List Word) (n at : ℕ) → ObjectIsRead s w i x → x ≡ Vector es → n ≡ length es → at < n
    → ((v : List Value) → as_vector (fetch (state_of names s b) (value_of_word names w)) ≡ Some v → length v ≤ at) → ⊥
some_element names b s w i x es n at r e len inside f =
    let past : length (values_of names es) ≤ at = f (values_of names es) (met as_vector names b s w i x (values_of names es) r (rw e refl)) in
    omega (arith, length-map es (value_of_word names))

-- instances
pub slot_set : (names : List (List ℕ)) (b : Beside) (s : Store) (w : Word) (i : ℕ) (x : Object) (it : Instance) (later : List (Option Word)) (at : ℕ) (e : Word) (v : ℕ × List (Option Value) × Value)
    → ObjectIsRead s w i x → x ≡ made.Instance it → later ≡ slice_set it.slots at (Some e) → as_instance (fetch (state_of names s b) (value_of_word names w)) ≡ Some v
    → seen names (record s { objects = with_item s.objects i (made.Instance (record it { slots = later })) }) b
    ≡ on_state (λ y. change (value_of_word names w) (objects.instance v.0 (slice_set v.1 at (Some (value_of_word names e))) v.2) y) (seen names s b)
slot_set names b s w i x it later at e v r is l h =
    let k : as_instance (Some (object_of names x)) ≡ Some v = seen_as as_instance names b s w i x v r h in
    let m : as_instance (Some (object_of names (made.Instance it))) ≡ Some v = rw is at k in
    let same : v ≡ (it.class, slots_of names it.slots, value_of_word names it.mark) = cc in
    put_seen names b s w i x (made.Instance (record it { slots = later })) (objects.instance v.0 (slice_set v.1 at (Some (value_of_word names e))) v.2) r (rw is refl) refl
    (rw (l, mapped_set (value_or_none names) it.slots at (Some e), same) refl)

pub no_slot : (names : List (List ℕ)) (b : Beside) (s : Store) (w : Word) (i : ℕ) (x : Object) (it : Instance) (n at : ℕ) (v : ℕ × List (Option Value) × Value)
    → ObjectIsRead s w i x → x ≡ made.Instance it → n ≡ length it.slots → n ≤ at → as_instance (fetch (state_of names s b) (value_of_word names w)) ≡ Some v → at < length v.1 → ⊥
no_slot names b s w i x it n at v r is len past h inside =
    let k : as_instance (Some (object_of names x)) ≡ Some v = seen_as as_instance names b s w i x v r h in
    let m : as_instance (Some (object_of names (made.Instance it))) ≡ Some v = rw is at k in
    let same : slots_of names it.slots ≡ v.1 = ap (λ (q : ℕ × List (Option Value) × Value). q.1) (slots_same m) in
    omega (arith, ap length same, length-map it.slots (value_or_none names))
  where
    slots_same : as_instance (Some (object_of names (made.Instance it))) ≡ Some v → (it.class, slots_of names it.slots, value_of_word names it.mark) ≡ v
    slots_same m = cc

pub no_instance : (names : List (List ℕ)) (b : Beside) (s : Store) (w : Word) (i : ℕ) (x : Object) (v : ℕ × List (Option Value) × Value)
    → ObjectIsRead s w i x → ((it : Instance) → x ≡ made.Instance it → ⊥) → as_instance (fetch (state_of names s b) (value_of_word names w)) ≡ Some v → ⊥
no_instance names b s w i x v r f h = let p = instance_there names x v (seen_as as_instance names b s w i x v r h) in f p.0 p.1

pub some_slot : (names : List (List ℕ)) (b : Beside) (s : Store) (w : Word) (i : ℕ) (x : Object) (it : Instance) (n at : ℕ) → ObjectIsRead s w i x → x ≡ made.Instance it → n ≡ length it.slots → at < n
    → ((v : ℕ × List (Option Value) × Value) → as_instance (fetch (state_of names s b) (value_of_word names w)) ≡ Some v → length v.1 ≤ at) → ⊥
some_slot names b s w i x it n at r e len inside f =
    let past : length (slots_of names it.slots) ≤ at = f (it.class, slots_of names it.slots, value_of_word names it.mark)
    (met as_instance names b s w i x (it.class, slots_of names it.slots, value_of_word names it.mark) r (rw e refl)) in
    omega (arith, length-map it.slots (value_or_none names))

-- marks
pub mark_set : (names : List (List ℕ)) (b : Beside) (s : Store) (w : Word) (i : ℕ) (x : Object) (it : Instance) (mark : Word)
    → ObjectIsRead s w i x → x ≡ made.Instance it
    → seen names (record s { objects = with_item s.objects i (made.Instance (record it { mark = mark })) }) b
    ≡ on_state (λ y. marked (value_of_word names w) (value_of_word names mark) y) (seen names s b)
mark_set names b s w i x it mark r is =
    let f : fetch (state_of names s b) (value_of_word names w) ≡ Some (object_of names (made.Instance it)) = fetched_at names b s w i x r.number r.there ∙ ap (λ o. Some (object_of names o)) is in
    rw (r.number, rw r.number at f) (object_set names b s i x (made.Instance (record it { mark = mark })) r.there (rw is refl) refl)

-- what is no instance has no mark
unmarked : (names : List (List ℕ)) (b : Beside) (s : Store) (i : ℕ) (x : Object) (mark : Word) → ((it : Instance) → x ≡ made.Instance it → ⊥)
    → seen names s b ≡ on_state (λ y. marked_at (value_of_word names (word.Object i)) (value_of_word names mark) (Some (object_of names x)) y) (seen names s b)
unmarked names b s i (made.Instance it) mark f = absurd (f it refl)
unmarked names b s i (Cons a d) mark f = refl
unmarked names b s i (Text bytes) mark f = refl
unmarked names b s i (Vector ws) mark f = refl
unmarked names b s i (Function p) mark f = refl
unmarked names b s i (Closure p cs) mark f = refl
unmarked names b s i (Generic g) mark f = refl
unmarked names b s i (Class c) mark f = refl
unmarked names b s i InputStream mark f = refl
unmarked names b s i OutputStream mark f = refl
unmarked names b s i (FreshSymbol n) mark f = refl

pub no_mark : (names : List (List ℕ)) (b : Beside) (s : Store) (w : Word) (i : ℕ) (x : Object) (mark : Word)
    → ObjectIsRead s w i x → ((it : Instance) → x ≡ made.Instance it → ⊥)
    → seen names (record s { objects = with_item s.objects i x }) b ≡ on_state (λ y. marked (value_of_word names w) (value_of_word names mark) y) (seen names s b)
no_mark names b s w i x mark r f =
    let e : slice_get (state_of names s b).store i ≡ Some (object_of names x) = slice_get-map (object_of names) s.objects.items i ∙ ap (option_map (object_of names)) r.there in
    rw (r.number, e) (unchanged names b s w i x x r refl ∙ unmarked names b s i x mark f)

-- a word that is past the objects, and one that is no object
pub nothing_marked : (names : List (List ℕ)) (b : Beside) (s : Store) (w : Word) (i : ℕ) (mark : Word) → w ≡ word.Object i → length s.objects.items ≤ i
    → seen names s b ≡ on_state (λ y. marked (value_of_word names w) (value_of_word names mark) y) (seen names s b)
nothing_marked names b s w i mark e past =
    let f : slice_get (state_of names s b).store i ≡ None = slice_get-map (object_of names) s.objects.items i ∙ ap (option_map (object_of names)) (slice_get_past s.objects.items i past) in
    rw (e, f) refl

pub no_object_marked : (names : List (List ℕ)) (b : Beside) (s : Store) (w mark : Word) → ((i : ℕ) → w ≡ word.Object i → ⊥)
    → seen names s b ≡ on_state (λ y. marked (value_of_word names w) (value_of_word names mark) y) (seen names s b)
no_object_marked names b s word.Nil mark f = refl
no_object_marked names b s word.True mark f = refl
no_object_marked names b s (word.Integer n) mark f = refl
no_object_marked names b s (word.Character c) mark f = refl
no_object_marked names b s (word.Symbol n) mark f = refl
no_object_marked names b s (word.Unnamed x n) mark f = refl
no_object_marked names b s (word.Object i) mark f = absurd (f i refl)
