-- How many methods a chain has: all that apply where one of them is primary, and none otherwise.
use Rattle.std.specs.Prelude.{◌≡◌, ℕ, ◌+◌, ◌==◌, Bool, true, false, cond, List, [], ◌∷◌, length, map, filter, reverse, if◌then◌else◌, refl}
use Rattle.std.proofs.Common.{◌∙◌, sym, ap, arith}
use Rattle.std.proofs.lemmas.List.{length-reverse}
use Rattle.lang_meaning.specs.declared.program.ProgramRows.{ProgramRows}
use Rattle.lang_meaning.specs.declared.program.GenericRow.{GenericRow}
use Rattle.lang_meaning.specs.declared.program.MethodRow.{MethodRow}
use Rattle.lang_meaning.specs.declared.program.Qualifier.{Qualifier}
use Rattle.lang_meaning.specs.declared.program.Qualifier.TheVariants.{Primary, Around, Before, After}
use Rattle.lang_meaning.specs.Classes.{applies, more_specific, among, ordered, is_qualifier, of_kind, chain_of, chain}
use Rattle.lang_meaning.specs.Cells.{chain_length}

-- how many of the methods are of a kind
abbrev pub count_of : Qualifier → List MethodRow → ℕ
count_of q [] = 0
count_of q (m ∷ ms) = (if is_qualifier q m.qualifier then 1 else 0) + count_of q ms

length-kind : (q : Qualifier) (ms : List MethodRow) → length (of_kind q ms) ≡ count_of q ms
length-kind q [] = refl
length-kind q (m ∷ ms) =
    let rest : length (of_kind q ms) ≡ count_of q ms = length-kind q ms in
    elim (is_qualifier q m.qualifier)
    as (λ b. length (map (λ m. m.procedure) (cond b (m ∷ filter (λ m. is_qualifier q m.qualifier) ms) (filter (λ m. is_qualifier q m.qualifier) ms)))
    ≡ (if b then 1 else 0) + count_of q ms) [
      | true ↦ let t : length (m.procedure ∷ of_kind q ms) ≡ 1 + count_of q ms = omega arith in t
      | false ↦ let t : length (of_kind q ms) ≡ 0 + count_of q ms = omega arith in t
    ]

count-among : (q : Qualifier) (b : MethodRow → MethodRow → Bool) (m : MethodRow) (ms : List MethodRow)
    → count_of q (among b m ms) ≡ count_of q (m ∷ ms)
count-among q b m [] = refl
count-among q b m (n ∷ ns) =
    let rest : count_of q (among b m ns) ≡ count_of q (m ∷ ns) = count-among q b m ns in
    elim (b m n) as (λ v. count_of q (if v then m ∷ n ∷ ns else n ∷ among b m ns) ≡ count_of q (m ∷ n ∷ ns)) [ true ↦ refl | false ↦ omega arith ]

count-ordered : (q : Qualifier) (b : MethodRow → MethodRow → Bool) (ms : List MethodRow) → count_of q (ordered b ms) ≡ count_of q ms
count-ordered q b [] = refl
count-ordered q b (m ∷ ms) =
    count-among q b m (ordered b ms) ∙ ap (λ n. (if is_qualifier q m.qualifier then 1 else 0) + n) (count-ordered q b ms)

-- each method is of one kind
one_kind : (q : Qualifier)
    → (if is_qualifier Around q then 1 else 0) + (if is_qualifier Before q then 1 else 0) + (if is_qualifier Primary q then 1 else 0)
    + (if is_qualifier After q then 1 else 0) ≡ 1
one_kind Primary = refl
one_kind Around = refl
one_kind Before = refl
one_kind After = refl

all_kinds : (ms : List MethodRow) → count_of Around ms + count_of Before ms + count_of Primary ms + count_of After ms ≡ length ms
all_kinds [] = refl
all_kinds (m ∷ ms) = omega (arith, all_kinds ms, one_kind m.qualifier)

-- the number of methods of a chain
abbrev pub size_of : List MethodRow → ℕ
size_of ms = if count_of Primary ms == 0 then 0 else length ms

pub length_of-chain : (ms : List MethodRow) (ps : List ℕ) → of_kind Primary ms ≡ ps → chain_length (chain_of ms ps) ≡ size_of ms
length_of-chain ms [] e =
    let none : count_of Primary ms ≡ 0 = sym (length-kind Primary ms) ∙ ap length e in
    rw none refl
length_of-chain ms (p ∷ ps) e =
    let some : count_of Primary ms ≡ length (p ∷ ps) = sym (length-kind Primary ms) ∙ ap length e in
    let test : (count_of Primary ms == 0) ≡ false = grind arith in
    let all : count_of Around ms + count_of Before ms + count_of Primary ms + count_of After ms ≡ length ms = all_kinds ms in
    let sum : length (of_kind Around ms) + length (of_kind Before ms) + length (p ∷ ps) + length (reverse (of_kind After ms)) ≡ length ms =
    omega (arith, length-kind Around ms, length-kind Before ms, length-kind After ms, length-reverse (of_kind After ms)) in
    rw test sum

size-ordered : (b : MethodRow → MethodRow → Bool) (ms : List MethodRow) → size_of (ordered b ms) ≡ size_of ms
size-ordered b ms =
    let lengths : length (ordered b ms) ≡ length ms =
    omega (arith, all_kinds ms, all_kinds (ordered b ms), count-ordered Around b ms, count-ordered Before b ms, count-ordered Primary b ms, count-ordered After b ms) in
    rw (count-ordered Primary b ms, lengths) refl

-- the length of a call's chain
pub chain_length_is : (program : ProgramRows) (g : GenericRow) (cs : List ℕ)
    → chain_length (chain program g cs) ≡ size_of (filter (λ m. applies program cs m.classes) g.methods)
chain_length_is program g cs =
    length_of-chain (ordered (λ m n. more_specific program cs m.classes n.classes) (filter (λ m. applies program cs m.classes) g.methods)) _ refl
    ∙ size-ordered (λ m n. more_specific program cs m.classes n.classes) (filter (λ m. applies program cs m.classes) g.methods)
