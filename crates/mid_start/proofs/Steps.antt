-- Results, sums and lists, step by step.
use Rattle.std.proofs.Common.{◌≡◌, ℕ, ◌+◌, ◌*◌, ◌≤◌, List, [], ◌∷◌, ◌++◌, length, take, Some, Result, Ok, Err, refl, ◌∙◌, ap, subst, append_assoc, get_or, arith}
use Rattle.std.specs.Prelude.{slice_get, OnOk, IfOk}
use Rattle.std.specs.List.{sum_by}
use Rattle.std.proofs.lemmas.List.{take_all}
use Rattle.std.proofs.lemmas.List.Sums.{sum_by-cons, sum_by_more, sum_by_more_le}
use Rattle.std.proofs.lemmas.Option.{slice_get_within, get_or_from_slice_get}
use Rattle.mid_start.specs.declared.words.ArenaWords.{ArenaWords}
use Rattle.mid_start.specs.Laying.{HasRoom, Grown}
use Rattle.mid_start.specs.declared.slots.SlotWords.{SlotWords}
use Rattle.lang_meaning.specs.declared.program.ClassRow.{ClassRow}
use Rattle.mid_start.specs.Making.{IsWithin}
use Rattle.lang_meaning.specs.declared.program.SlotRow.{SlotRow}
use Rattle.lang_meaning.specs.declared.program.LiteralRow.{LiteralRow}
use Rattle.lang_meaning.specs.declared.program.LiteralRow.TheVariants as row
use Rattle.lang_meaning.specs.ProgramCounts.{row_nodes, slot_nodes, class_nodes}
use Rattle.mid_start.specs.Rows.{literal_size, slot_size, slots_size, class_size, most_literal_words, most_slot_words, most_slots_words, most_class_words}
use Rattle.mid_start.specs.Settling.{slot_words, precedence_words}

pub if_ok : {X E : Type 0} (r : Result X E) (P Q : X → Type 0) → ((x : X) → P x → Q x) → IfOk r P → IfOk r Q
if_ok (Ok x) P Q f h = f x h
if_ok (Err e) P Q f h = tt

pub on_ok : {X E : Type 0} (r : Result X E) (P Q : Type 0) → (P → Q) → OnOk r P → OnOk r Q
on_ok (Ok x) P Q f h = f h
on_ok (Err e) P Q f h = tt

pub on_ok_both : {X E : Type 0} (r : Result X E) (P Q R : Type 0) → (P → Q → R) → OnOk r P → OnOk r Q → OnOk r R
on_ok_both (Ok x) P Q R f h g = f h g
on_ok_both (Err e) P Q R f h g = tt

pub if_ok_on : {X E : Type 0} (r : Result X E) (P Q : X → Type 0) (R : Type 0) → ((x : X) → R → P x → Q x) → OnOk r R → IfOk r P → IfOk r Q
if_ok_on (Ok x) P Q R f g h = f x g h
if_ok_on (Err e) P Q R f g h = tt

-- sums

pub sum_next : {X : Type 0} (f : X → ℕ) (xs : List X) (i : ℕ) (x : X) → slice_get xs i ≡ Some x → sum_by f (take (i + 1) xs) ≡ sum_by f (take i xs) + f x
sum_next f xs i x e =
    let here : f (get_or xs i x) ≡ f x = ap f (get_or_from_slice_get xs i x x e) in
    let more : sum_by f (take (i + 1) xs) ≡ sum_by f (take i xs) + f (get_or xs i x) = sum_by_more f xs i x (slice_get_within xs i x e) in
    omega (arith, here, more)

pub sum_within : {X : Type 0} (f : X → ℕ) (xs : List X) (i : ℕ) (x : X) → slice_get xs i ≡ Some x → sum_by f (take i xs) + f x ≤ sum_by f xs
sum_within f xs i x e =
    let here : f (get_or xs i x) ≡ f x = ap f (get_or_from_slice_get xs i x x e) in
    let more : sum_by f (take i xs) + f (get_or xs i x) ≤ sum_by f xs = sum_by_more_le f xs i x (slice_get_within xs i x e) in
    omega (arith, here, more)

-- words so far, and how many more there is room for

pub room_next :
    {X : Type 0} (f : X → ℕ) (xs : List X) (i : ℕ) (x : X) (before now : ArenaWords) → slice_get xs i ≡ Some x
    → HasRoom before (sum_by f xs) → IsWithin before now (sum_by f (take i xs)) → HasRoom now (f x)
room_next f xs i x before now e room within =
    let some = sum_within f xs i x e in
    omega (arith, room, within.first, within.count)

pub within_next :
    {X : Type 0} (f : X → ℕ) (xs : List X) (i : ℕ) (x : X) (before now after : ArenaWords) → slice_get xs i ≡ Some x
    → IsWithin before now (sum_by f (take i xs)) → IsWithin now after (f x) → IsWithin before after (sum_by f (take (i + 1) xs))
within_next f xs i x before now after e p q =
    let more = sum_next f xs i x e in
    record { first = q.first ∙ p.first; count = omega (arith, p.count, q.count) }

pub within_all : {X : Type 0} (f : X → ℕ) (xs : List X) (i : ℕ) (before now : ArenaWords) → length xs ≤ i
    → IsWithin before now (sum_by f (take i xs)) → IsWithin before now (sum_by f xs)
within_all f xs i before now h p = subst (λ ys. IsWithin before now (sum_by f ys)) (take_all i xs h) p

-- what was laid for a datum
pub within_grown : (before after : ArenaWords) (n : ℕ) → Grown before after → length after.words ≤ length before.words + n → IsWithin before after n
within_grown before after n g h = record { first = g.first; count = h }

-- words pushed one after another
pub pushed_more : {X : Type 0} (front : List X) (words more : List X) (x : X) (now : List X) → words ≡ front ++ more → now ≡ words ++ x ∷ [] → now ≡ front ++ (more ++ x ∷ [])
pushed_more front words more x now e h = h ∙ ap (λ xs. xs ++ x ∷ []) e ∙ append_assoc front more (x ∷ [])

pub precedence_more : (cs : List ℕ) (c : ℕ) → precedence_words (cs ++ c ∷ []) ≡ precedence_words cs ++ 4 * c ∷ []
precedence_more [] c = refl
precedence_more (d ∷ cs) c = ap (λ ws. 4 * d ∷ ws) (precedence_more cs c)

pub slots_more : (ss : List SlotWords) (s : SlotWords) → slot_words (ss ++ s ∷ []) ≡ slot_words ss ++ s.name ∷ s.initargs ∷ s.initform ∷ []
slots_more [] s = refl
slots_more (r ∷ ss) s = ap (λ ws. r.name ∷ r.initargs ∷ r.initform ∷ ws) (slots_more ss s)

pub three_pushed :
    (front more one two three : List ℕ) (words : List ℕ) (x y z : ℕ) → words ≡ front ++ more → one ≡ words ++ x ∷ [] → two ≡ one ++ y ∷ [] → three ≡ two ++ z ∷ []
    → three ≡ front ++ (more ++ x ∷ y ∷ z ∷ [])
three_pushed front more one two three words x y z e a b c =
    c ∙ ap (λ ws. ws ++ z ∷ []) b ∙ append_assoc one (y ∷ []) (z ∷ []) ∙ ap (λ ws. ws ++ y ∷ z ∷ []) a
    ∙ append_assoc words (x ∷ []) (y ∷ z ∷ []) ∙ ap (λ ws. ws ++ x ∷ y ∷ z ∷ []) e ∙ append_assoc front more (x ∷ y ∷ z ∷ [])

-- the words of a class, pushed part by part
pub parts_pushed : (words one two three a b c : List ℕ) → one ≡ words ++ a → two ≡ one ++ b → three ≡ two ++ c → three ≡ words ++ (a ++ b ++ c)
parts_pushed words one two three a b c e f g =
    g ∙ ap (λ ws. ws ++ c) (f ∙ ap (λ ws. ws ++ b) e) ∙ ap (λ ws. ws ++ c) (append_assoc words a b) ∙ append_assoc words (a ++ b) c

-- no list of classes is longer than the size of its classes
pub classes_within : (cs : List ClassRow) → length cs ≤ sum_by class_size cs
classes_within [] = omega arith
classes_within (c ∷ cs) =
    let others : length cs ≤ sum_by class_size cs = classes_within cs in
    let step : sum_by class_size (c ∷ cs) ≡ class_size c + sum_by class_size cs = sum_by-cons class_size c cs in
    omega (arith, others, step)

-- the sizes of all parts are within the size of the start
pub literals_within : (ls : List LiteralRow) → sum_by literal_size ls ≤ sum_by row_nodes ls
literals_within [] = omega arith
literals_within (l ∷ ls) =
    let others : sum_by literal_size ls ≤ sum_by row_nodes ls = literals_within ls in
    omega (arith, others, one l, sum_by-cons literal_size l ls, sum_by-cons row_nodes l ls)
  where
    one : (l : LiteralRow) → literal_size l ≤ row_nodes l
    one (row.Datum d) = omega arith
    one (row.Class c) = omega arith
    one (row.Function name) = omega arith

slots_of_class : (ss : List SlotRow) → sum_by slot_size ss + length ss ≤ 4 * sum_by slot_nodes ss
slots_of_class [] = omega arith
slots_of_class (s ∷ ss) =
    let others : sum_by slot_size ss + length ss ≤ 4 * sum_by slot_nodes ss = slots_of_class ss in
    omega (arith, others, sum_by-cons slot_size s ss, sum_by-cons slot_nodes s ss)

pub all_classes_within : (cs : List ClassRow) → sum_by slots_size cs + sum_by class_size cs ≤ 4 * sum_by class_nodes cs + 2 * length cs
all_classes_within [] = omega arith
all_classes_within (c ∷ cs) =
    let others : sum_by slots_size cs + sum_by class_size cs ≤ 4 * sum_by class_nodes cs + 2 * length cs = all_classes_within cs in
    omega (arith, others, slots_of_class c.slots, sum_by-cons slots_size c cs, sum_by-cons class_size c cs, sum_by-cons class_nodes c cs)

-- and so are their words, at 160 for each unit of their sizes
pub literal_words_within : (ls : List LiteralRow) → sum_by most_literal_words ls ≤ 160 * sum_by row_nodes ls
literal_words_within [] = omega arith
literal_words_within (l ∷ ls) =
    let others : sum_by most_literal_words ls ≤ 160 * sum_by row_nodes ls = literal_words_within ls in
    omega (arith, others, one l, sum_by-cons most_literal_words l ls, sum_by-cons row_nodes l ls)
  where
    one : (l : LiteralRow) → most_literal_words l ≤ 160 * row_nodes l
    one (row.Datum d) = omega arith
    one (row.Class c) = omega arith
    one (row.Function name) = omega arith

slot_words_within : (ss : List SlotRow) → sum_by most_slot_words ss + 3 * length ss ≤ 160 * sum_by slot_nodes ss
slot_words_within [] = omega arith
slot_words_within (s ∷ ss) =
    let others : sum_by most_slot_words ss + 3 * length ss ≤ 160 * sum_by slot_nodes ss = slot_words_within ss in
    omega (arith, others, sum_by-cons most_slot_words s ss, sum_by-cons slot_nodes s ss)

pub class_words_within :
    (cs : List ClassRow) → sum_by most_slots_words cs + sum_by most_class_words cs ≤ 160 * sum_by class_nodes cs + 77 * length cs
class_words_within [] = omega arith
class_words_within (c ∷ cs) =
    let others : sum_by most_slots_words cs + sum_by most_class_words cs ≤ 160 * sum_by class_nodes cs + 77 * length cs = class_words_within cs in
    omega (
      arith,
      others,
      slot_words_within c.slots,
      sum_by-cons most_slots_words c cs,
      sum_by-cons most_class_words c cs,
      sum_by-cons class_nodes c cs,
    )
