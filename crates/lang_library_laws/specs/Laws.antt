-- The laws of the library: what a function gives for all proper lists, in any state and in every program that has it, with any number
-- of levels and of words.
use Rattle.std.specs.Prelude.{◌≡◌, ◌<◌, ◌≤◌, ◌⊎◌, ℕ, ◌+◌, ℤ, pos, Bool, true, List, [], ◌∷◌, ◌++◌, codes, Option, Some, None, length, map, reverse, slice_get}
use Rattle.std.specs.Str.{bytes_eq}
use Rattle.base.specs.Data as datum
use Rattle.base.specs.declared.datum.Name.{Name}
use Rattle.lang_meaning.specs.declared.program.ProgramRows.{ProgramRows}
use Rattle.lang_meaning.specs.Values.{Value, integer, character, object, truth, in_range}
use Rattle.lang_meaning.specs.Objects.{Object, string, vector}
use Rattle.lang_meaning.specs.State.{State, DynamicContext, Evaluated, value, Limit, unlimited}
use Rattle.lang_meaning.specs.Signals.{Signals, signal, apply_procedure, apply_value}
use Rattle.lang_library_laws.specs.Lists.{IsListFrom, IsProperList, AreProperLists, joined, HasConses, AreFrom, ChangesOnly, IsBehind, from_item, HaveKeys, with_key, OfEach, OfBoth}
use Rattle.lang_library_laws.specs.Structures.{Structure, text, StandsFor, AreStrings, alike, depth}
use Rattle.lang_library_laws.specs.Decimal.{decimal}
use Rattle.lang_library_laws.specs.Applications.{IsExtended, KeepsPrinting, Prints, GivesKeeping, Gives, at_level, HasLiteral, HasTruth, HasText, HasClass, IsInstanceOf, IsOutput, IsNamed}
use Rattle.lang_library_laws.specs.ListBodies.{list_function, turn_copy_onto, turn_onto, append_all, append_function, reverse_function, nreverse_function, list_length, length_function, memv, member_function, assoc_function}
use Rattle.lang_library_laws.specs.EqualBodies.{string_equal, equal_vectors, equal_function}
use Rattle.lang_library_laws.specs.SequenceBodies.{elt_function, ListFromNumbers, list_from, listp_function, CheckNumbers, check_function, PartNumbers, part_of_list, SubseqNumbers, subseq_function, MapcarNumbers, mapcar_function}
use Rattle.lang_library_laws.specs.StringBodies.{length_of_all, copy_into, string_append}
use Rattle.lang_library_laws.specs.NumberBodies.{emit, digit_function, emit_digit, emit_natural, emit_integer}

-- with unlimited words and enough levels there is a value of which that holds
abbrev pub LawOfEnough : Type 0
LawOfEnough =
    (kept : List Object) (levels enough : ℕ) (z : State) (holds : Value → List Object → Bool) (r : Evaluated)
    → GivesKeeping kept unlimited levels enough z (λ v store. holds v store ≡ true) r → enough ≤ levels
    → (v : Value) × (r.outcome ≡ value v) × KeepsPrinting (λ text. text ≡ z.printed) kept z r.state × (holds v r.state.store ≡ true)

-- and where something is printed all of it is
abbrev pub LawOfAllPrinted : Type 0
LawOfAllPrinted =
    (kept : List Object) (levels enough : ℕ) (z : State) (whole : List ℕ) (r : Evaluated)
    → Prints kept unlimited levels enough z whole r → enough ≤ levels
    → (v : Value) × (r.outcome ≡ value v) × KeepsPrinting (λ text. text ≡ z.printed ++ whole) kept z r.state

-- `(list object ..)` is a new list of the objects
abbrev pub LawOfList : Type 0
LawOfList =
    (names : List (List ℕ)) (program : ProgramRows) (name : Option Name) (v number : ℕ)
    → slice_get program.procedures number ≡ Some (list_function name v)
    → (limit : Limit) (k : ℕ) (wrong : Signals) (around : DynamicContext) (z : State) (items : List Value)
    → Gives limit k 1 z (λ w store. IsListFrom (length z.store) store w items)
    (apply_procedure (at_level names program limit k) wrong number None items around z)

-- `(append list ..)` is a list of the items of all lists, one after another
abbrev pub LawOfAppend : Type 0
LawOfAppend =
    (names : List (List ℕ)) (program : ProgramRows) (name name' copy_name onto_name : Option Name) (v v' copy_v onto_v : ℕ)
    (ends_in_list no_items truth nothing list_class truth' turn_copy turn domain_error append_all_name number : ℕ)
    → HasTruth program ends_in_list → HasLiteral program no_items datum.nil → HasTruth program truth → HasLiteral program nothing datum.nil
    → HasTruth program truth'
    → IsNamed names program turn_copy (turn_copy_onto copy_name copy_v) → IsNamed names program turn (turn_onto onto_name onto_v)
    → IsNamed names program append_all_name (append_all name' v' no_items truth nothing list_class truth' turn_copy turn domain_error)
    → slice_get program.procedures number ≡ Some (append_function name v append_all_name ends_in_list)
    → (limit : Limit) (k : ℕ) (wrong : Signals) (around : DynamicContext) (z : State) (lists : List (Value × List Value))
    → AreProperLists z.store lists
    → Gives limit k (length lists + length (joined lists) + 3) z (λ w store. IsProperList store w (joined lists))
    (apply_procedure (at_level names program limit k) wrong number None (map (λ l. l.0) lists) around z)

-- `(reverse list)` is a new list of the items in the other order
abbrev pub LawOfReverse : Type 0
LawOfReverse =
    (names : List (List ℕ)) (program : ProgramRows) (name name' : Option Name) (v v' : ℕ) (turn no_items number : ℕ)
    → IsNamed names program turn (turn_copy_onto name' v')
    → HasLiteral program no_items datum.nil
    → slice_get program.procedures number ≡ Some (reverse_function name v turn no_items)
    → (limit : Limit) (k : ℕ) (wrong : Signals) (around : DynamicContext) (z : State) (list : Value) (items : List Value)
    → IsProperList z.store list items
    → Gives limit k (length items + 2) z (λ w store. IsListFrom (length z.store) store w (reverse items))
    (apply_procedure (at_level names program limit k) wrong number None (list ∷ []) around z)

-- `(nreverse list)` is a list of the conses of that list in the other order, each with its item, and nothing else is changed. What was there
-- before all of these conses is as it was also where there is no value.
abbrev pub LawOfNreverse : Type 0
LawOfNreverse =
    (names : List (List ℕ)) (program : ProgramRows) (name name' : Option Name) (v v' : ℕ) (turn no_items number : ℕ)
    → IsNamed names program turn (turn_onto name' v')
    → HasLiteral program no_items datum.nil
    → slice_get program.procedures number ≡ Some (nreverse_function name v turn no_items)
    → (limit : Limit) (k : ℕ) (wrong : Signals) (around : DynamicContext) (z : State) (list : Value) (conses : List (ℕ × Value))
    → HasConses z.store list conses
    → (kept : List Object) → IsExtended Object kept z.store → AreFrom (length kept) conses
    → GivesKeeping kept limit k (length conses + 2) z (λ w store. HasConses store w (reverse conses) × ChangesOnly conses z.store store)
    (apply_procedure (at_level names program limit k) wrong number None (list ∷ []) around z)

-- what fits of a call goes by the objects that were there at first and by those that the call made, from a number on: it still fits
-- where these are the same
abbrev pub FitsStay : (first : ℕ) → (ℕ → Value → Value → List Object → Bool) → Type 0
FitsStay first fits =
    (from : ℕ) (x y : Value) (made later : List Object) → fits from x y made ≡ true
    → ((i : ℕ) → (i < first) ⊎ ((from ≤ i) × (i < length made)) → slice_get later i ≡ slice_get made i) → fits from x y later ≡ true

-- `(mapcar function list)` is a new list of the values that the function has for the items, in their order: where it has for each item a
-- value that fits, with so many levels and in every later state that keeps what was there. What fits may be said of the objects that were
-- there and of those that the call made, whose numbers begin with that of the first one.
abbrev pub LawOfMapcar : Type 0
LawOfMapcar =
    (names : List (List ℕ)) (program : ProgramRows) (name nreverse_name turn_name : Option Name) (v nreverse_v turn_v : ℕ) (n : MapcarNumbers) (turn no_items number : ℕ)
    → IsNamed names program turn (turn_onto turn_name turn_v) → HasLiteral program no_items datum.nil
    → IsNamed names program n.nreverse (nreverse_function nreverse_name nreverse_v turn no_items) → HasLiteral program n.no_values datum.nil
    → slice_get program.procedures number ≡ Some (mapcar_function name v n)
    → (limit : Limit) (k : ℕ) (wrong : Signals) (around : DynamicContext) (z : State) (function list : Value) (items : List Value)
    → (class : ℕ) → HasClass names program z.store n.function.class class → IsInstanceOf program class z.store function
    → IsProperList z.store list items
    → (fits : ℕ → Value → Value → List Object → Bool) → FitsStay (length z.store) fits → (enough : ℕ)
    → OfEach (λ x. (levels : ℕ) (within : DynamicContext) (y : State) → IsExtended Object z.store y.store
    → Gives limit levels enough y (λ w store. fits (length y.store) x w store ≡ true)
    (apply_value (at_level names program limit levels) (signal (at_level names program limit levels)) function (x ∷ []) within y)) items
    → Gives limit k (length items + enough + 3) z
    (λ w store. (values : List Value) × IsListFrom (length z.store) store w values × OfBoth (λ x y. (from : ℕ) × (fits from x y store ≡ true)) items values)
    (apply_procedure (at_level names program limit k) wrong number None (function ∷ list ∷ []) around z)

-- `(elt list index)` is the item behind so many others
abbrev pub LawOfEltOfList : Type 0
LawOfEltOfList =
    (names : List (List ℕ)) (program : ProgramRows) (name name' : Option Name) (v v' : ℕ) (n : ListFromNumbers) (truth list_from_name number : ℕ)
    → HasTruth program truth → HasTruth program n.truth
    → HasLiteral program n.least (datum.integer (pos 0)) → HasLiteral program n.last (datum.integer (pos 0)) → HasLiteral program n.decrement (datum.integer (pos 1))
    → IsNamed names program list_from_name (list_from name' v' n)
    → slice_get program.procedures number ≡ Some (elt_function name v truth list_from_name)
    → (limit : Limit) (k : ℕ) (wrong : Signals) (around : DynamicContext) (z : State) (list x : Value) (front behind : List Value)
    → (class class' : ℕ) → HasClass names program z.store n.list.class class → HasClass names program z.store n.index.class class'
    → IsInstanceOf program class z.store list → IsInstanceOf program class' z.store (integer (pos (length front)))
    → IsProperList z.store list (front ++ x ∷ behind) → length front ≤ 536870911
    → Gives limit k (length front + 2) z (λ w store. w ≡ x)
    (apply_procedure (at_level names program limit k) wrong number None (list ∷ integer (pos (length front)) ∷ []) around z)

-- and so is `(elt string index)`, a character, and `(elt vector index)`
abbrev pub LawOfEltOfString : Type 0
LawOfEltOfString =
    (names : List (List ℕ)) (program : ProgramRows) (name : Option Name) (v truth list_from_name number : ℕ)
    → slice_get program.procedures number ≡ Some (elt_function name v truth list_from_name)
    → (limit : Limit) (k : ℕ) (wrong : Signals) (around : DynamicContext) (z : State) (i c : ℕ) (front behind : List ℕ)
    → slice_get z.store i ≡ Some (string (front ++ c ∷ behind))
    → Gives limit k 1 z (λ w store. w ≡ character c)
    (apply_procedure (at_level names program limit k) wrong number None (object i ∷ integer (pos (length front)) ∷ []) around z)

abbrev pub LawOfEltOfVector : Type 0
LawOfEltOfVector =
    (names : List (List ℕ)) (program : ProgramRows) (name : Option Name) (v truth list_from_name number : ℕ)
    → slice_get program.procedures number ≡ Some (elt_function name v truth list_from_name)
    → (limit : Limit) (k : ℕ) (wrong : Signals) (around : DynamicContext) (z : State) (i : ℕ) (x : Value) (front behind : List Value)
    → slice_get z.store i ≡ Some (vector (front ++ x ∷ behind))
    → Gives limit k 1 z (λ w store. w ≡ x)
    (apply_procedure (at_level names program limit k) wrong number None (object i ∷ integer (pos (length front)) ∷ []) around z)

-- `(subseq list start end)` is a new list of the items from a start up to an end
abbrev pub LawOfSubseq : Type 0
LawOfSubseq =
    (names : List (List ℕ)) (program : ProgramRows) (name check_name listp_name part_name nreverse_name turn_name : Option Name)
    (v check_v listp_v part_v nreverse_v turn_v : ℕ) (n : SubseqNumbers) (m : CheckNumbers) (p : PartNumbers) (listp_truth turn no_items number : ℕ)
    → HasTruth program n.truth → HasTruth program listp_truth
    → HasLiteral program n.least (datum.integer (pos 0)) → HasLiteral program p.none (datum.integer (pos 0)) → HasLiteral program p.increment (datum.integer (pos 1))
    → HasLiteral program p.no_items datum.nil → HasLiteral program no_items datum.nil
    → IsNamed names program n.check (check_function check_name check_v m)
    → IsNamed names program m.listp (listp_function listp_name listp_v listp_truth)
    → IsNamed names program n.listp (listp_function listp_name listp_v listp_truth)
    → IsNamed names program n.part_of_list (part_of_list part_name part_v p)
    → IsNamed names program p.nreverse (nreverse_function nreverse_name nreverse_v turn no_items)
    → IsNamed names program turn (turn_onto turn_name turn_v)
    → slice_get program.procedures number ≡ Some (subseq_function name v n)
    → (limit : Limit) (k : ℕ) (wrong : Signals) (around : DynamicContext) (z : State) (list : Value) (front part behind : List Value)
    → (class class' : ℕ) → HasClass names program z.store n.start.class class → HasClass names program z.store n.end.class class'
    → IsInstanceOf program class z.store (integer (pos (length front))) → IsInstanceOf program class' z.store (integer (pos (length (front ++ part))))
    → IsProperList z.store list (front ++ part ++ behind) → length (front ++ part) ≤ 536870911
    → Gives limit k (length (front ++ part) + 4) z (λ w store. IsListFrom (length z.store) store w part)
    (apply_procedure (at_level names program limit k) wrong number None (list ∷ integer (pos (length front)) ∷ integer (pos (length (front ++ part))) ∷ []) around z)

-- `(string-append string ..)` is a new string of the characters of all strings, one after another
abbrev pub LawOfStringAppend : Type 0
LawOfStringAppend =
    (names : List (List ℕ)) (program : ProgramRows) (name lengths_name copy_name : Option Name) (v lengths_v copy_v : ℕ)
    (blank none none' none'' increment increment' lengths copy number : ℕ)
    → HasLiteral program blank (datum.character 32) → HasLiteral program none (datum.integer (pos 0)) → HasLiteral program none' (datum.integer (pos 0))
    → HasLiteral program none'' (datum.integer (pos 0)) → HasLiteral program increment (datum.integer (pos 1)) → HasLiteral program increment' (datum.integer (pos 1))
    → IsNamed names program lengths (length_of_all lengths_name lengths_v none')
    → IsNamed names program copy (copy_into copy_name copy_v none'' increment increment')
    → slice_get program.procedures number ≡ Some (string_append name v blank none lengths copy)
    → (limit : Limit) (k : ℕ) (wrong : Signals) (around : DynamicContext) (z : State) (strings : List (Value × List ℕ))
    → AreStrings z.store strings → length (joined strings) ≤ 536870911
    → Gives limit k (length strings + length (joined strings) + 2) z
    (λ w store. (i : ℕ) × (w ≡ object i) × (length z.store ≤ i) × (slice_get store i ≡ Some (string (joined strings))))
    (apply_procedure (at_level names program limit k) wrong number None (map (λ s. s.0) strings) around z)

-- `(length list)` is the number of items, where it is an integer of this profile
abbrev pub LawOfLength : Type 0
LawOfLength =
    (names : List (List ℕ)) (program : ProgramRows) (name name' : Option Name) (v v' : ℕ)
    (none increment truth truth' list_class domain_error list_length_name number : ℕ)
    → HasLiteral program none (datum.integer (pos 0)) → HasLiteral program increment (datum.integer (pos 1))
    → HasTruth program truth
    → IsNamed names program list_length_name (list_length name' v' none increment truth' list_class domain_error)
    → slice_get program.procedures number ≡ Some (length_function name v truth list_length_name)
    → (limit : Limit) (k : ℕ) (wrong : Signals) (around : DynamicContext) (z : State) (list : Value) (items : List Value)
    → IsProperList z.store list items → length items ≤ 536870911
    → Gives limit k (length items + 2) z (λ w store. w ≡ integer (pos (length items)))
    (apply_procedure (at_level names program limit k) wrong number None (list ∷ []) around z)

-- `(member object list)` is what of the list begins with the object: no copy, but the list behind so many of its conses
abbrev pub LawOfMember : Type 0
LawOfMember =
    (names : List (List ℕ)) (program : ProgramRows) (name name' : Option Name) (v v' : ℕ) (truth memv_name number : ℕ)
    → HasTruth program truth
    → IsNamed names program memv_name (memv name' v' truth)
    → slice_get program.procedures number ≡ Some (member_function name v memv_name)
    → (limit : Limit) (k : ℕ) (wrong : Signals) (around : DynamicContext) (z : State) (sought list : Value) (items : List Value)
    → IsProperList z.store list items
    → Gives limit k (length items + 2) z (λ w store. (n : ℕ) × IsBehind store n list w × IsProperList store w (from_item sought items))
    (apply_procedure (at_level names program limit k) wrong number None (sought ∷ list ∷ []) around z)

-- `(assoc key list)` is the first cons of the list with that key
abbrev pub LawOfAssoc : Type 0
LawOfAssoc =
    (names : List (List ℕ)) (program : ProgramRows) (name : Option Name) (v : ℕ) (truth truth' no_entry number : ℕ)
    → HasTruth program truth → HasTruth program truth' → HasLiteral program no_entry datum.nil
    → slice_get program.procedures number ≡ Some (assoc_function name v truth truth' no_entry)
    → (limit : Limit) (k : ℕ) (wrong : Signals) (around : DynamicContext) (z : State) (key list : Value) (entries : List (Value × Value))
    → IsProperList z.store list (map (λ e. e.0) entries) → HaveKeys z.store entries
    → Gives limit k (length entries + 1) z (λ w store. w ≡ with_key key entries)
    (apply_procedure (at_level names program limit k) wrong number None (key ∷ list ∷ []) around z)

-- `(%emit-integer stream integer 10)`, by which the library prints integers, puts the decimal digits of an integer of this profile
abbrev pub LawOfDigits : Type 0
LawOfDigits =
    (names : List (List ℕ)) (program : ProgramRows) (name natural_name last_name put_name byte_name : Option Name)
    (v natural_v last_v put_v byte_v : ℕ) (bound truth minuend minuend' minus least digits put natural last byte number : ℕ)
    → HasLiteral program bound (datum.integer (pos 0)) → HasTruth program truth → HasLiteral program minuend (datum.integer (pos 0))
    → HasLiteral program minuend' (datum.integer (pos 0)) → HasLiteral program minus (datum.character 45) → HasLiteral program least (datum.integer (pos 0))
    → IsNamed names program put (emit put_name put_v) → IsNamed names program byte (digit_function byte_name byte_v digits)
    → IsNamed names program last (emit_digit last_name last_v put byte) → IsNamed names program natural (emit_natural natural_name natural_v natural last)
    → slice_get program.procedures number ≡ Some (emit_integer name v bound truth minuend minuend' minus least put natural last)
    → (limit : Limit) (k : ℕ) (wrong : Signals) (around : DynamicContext) (z : State) (stream : Value) (n : ℤ)
    → IsOutput z.store stream → HasText names program z.store digits (codes "0123456789ABCDEFGHIJKLMNOPQRSTUVWXYZ") → in_range n ≡ true
    → Prints z.store limit k (length (decimal n) + 3) z (decimal n)
    (apply_procedure (at_level names program limit k) wrong number None (stream ∷ integer n ∷ integer (pos 10) ∷ []) around z)

-- `(string= first second)` says whether two strings have the same characters
abbrev pub LawOfStringEqual : Type 0
LawOfStringEqual =
    (names : List (List ℕ)) (program : ProgramRows) (name : Option Name) (v none increment number : ℕ)
    → HasLiteral program none (datum.integer (pos 0)) → HasLiteral program increment (datum.integer (pos 1))
    → slice_get program.procedures number ≡ Some (string_equal name v none increment)
    → (limit : Limit) (k : ℕ) (wrong : Signals) (around : DynamicContext) (z : State) (first second : Value) (a b : List ℕ)
    → StandsFor z.store first (text a) → StandsFor z.store second (text b)
    → Gives limit k (length a + 1) z (λ w store. w ≡ truth (bytes_eq a b))
    (apply_procedure (at_level names program limit k) wrong number None (first ∷ second ∷ []) around z)

-- that two structures are alike says that they are one and the same
abbrev pub LawOfAlike : Type 0
LawOfAlike = (t r : Structure) → (alike t r ≡ true → t ≡ r) × (t ≡ r → alike t r ≡ true)

-- `(equal first second)` says whether two finite data are equal
abbrev pub LawOfEqual : Type 0
LawOfEqual =
    (names : List (List ℕ)) (program : ProgramRows) (name strings_name vectors_name : Option Name) (v strings_v vectors_v : ℕ)
    (nothing truth_id none increment none' increment' equal strings vectors : ℕ)
    → HasLiteral program nothing datum.nil → HasTruth program truth_id
    → HasLiteral program none (datum.integer (pos 0)) → HasLiteral program increment (datum.integer (pos 1))
    → HasLiteral program none' (datum.integer (pos 0)) → HasLiteral program increment' (datum.integer (pos 1))
    → IsNamed names program strings (string_equal strings_name strings_v none increment)
    → IsNamed names program vectors (equal_vectors vectors_name vectors_v none' increment' equal)
    → (named : IsNamed names program equal (equal_function name v nothing truth_id equal strings vectors))
    → (limit : Limit) (k : ℕ) (wrong : Signals) (around : DynamicContext) (z : State) (first second : Value) (t r : Structure)
    → StandsFor z.store first t → StandsFor z.store second r
    → Gives limit k (depth t + 1) z (λ w store. w ≡ truth (alike t r))
    (apply_procedure (at_level names program limit k) wrong named.number None (first ∷ second ∷ []) around z)
