-- The row of an instruction does what the instruction does, at its place; so do the rows that are kept of an arena.
use Rattle.std.proofs.Common.{◌≡◌, ℕ, ◌*◌, ◌%◌, ◌<◌, ◌≤◌, Bool, true, false, List, [], ◌∷◌, ◌++◌, length, get_or, take, drop, Some, None, append-nil, refl, sym, ap, subst, ◌∙◌, arith, inl, inr}
use Rattle.std.specs.Prelude.{Option, IfSome, if◌then◌else◌, ◌==◌, nat_lt, not, slice_set}
use Rattle.std.proofs.lemmas.Bool.{cases_lt}
use Rattle.std.proofs.lemmas.Bool.Decides.{nat_tests}
use Rattle.std.proofs.lemmas.List.{get_or_append_left, get_or_past, get_or-set_other, length-set, take_all, drop_all}
use Rattle.std.proofs.lemmas.Grind.{get_or-set_at, common_steps}
use Rattle.std.proofs.lemmas.Option.{slice_get-get_or, get_or_from_slice_get}
use Rattle.std.proofs.Math.Seq.{get_or-append_seam}
use Rattle.base.specs.Arithmetic.{sum32, less_signed}
use Rattle.rv_encode.specs.declared.instruction.Instr.{Instr}
use Rattle.rv_encode.specs.declared.instruction.Instr.TheVariants as instr
use Rattle.rv_encode.specs.Decode.{decode_of}
use Rattle.rv_machine.specs.declared.machine.rows.Row.{Row}
use Rattle.rv_machine.specs.declared.machine.rows.Row.TheVariants.{Add, Sub, Sll, Slt, Sltu, Xor, Srl, Sra, Or, And, Mul, Mulh, Mulhsu, Mulhu, Div, Divu, Rem, Remu, Addi, Slti, Sltiu, Xori, Ori, Andi, Slli, Srli, Srai, Lb, Lh, Lw, Lbu, Lhu, Set, Jump, JumpAndLink, JumpTo, JumpToAndLink, Nothing, Leave}
use Rattle.rv_machine.specs.Arithmetic.{sign_extended}
use Rattle.rv_machine.specs.Memory.{number_at, bytes_of}
use Rattle.rv_machine.specs.Words.{OneWord, word_there}
use Rattle.rv_machine.specs.State.{State, register}
use Rattle.rv_machine.specs.Step.{Result, next, behind, gives, link, branch, go_to, execute, decoded, fetched, step_of}
use Rattle.rv_machine.specs.Rows.{address_of, destination, does, jumped, to_word, unless_zero, row_of, read_row, Means, Kept, given_up}

-- what a row does, where it does anything, is this
abbrev pub DoesSo : Row → State → Result → Type 0
DoesSo row s r = IfSome (does row s) (λ x. x ≡ r)

-- Rows of instructions whose result goes nowhere where the register is 0.

by-register :
    (test : Bool) (rd : ℕ) (zero : Row) (row : ℕ → Row) (s : State) (r : Result) → (rd == 0) ≡ test
    → ((rd == 0) ≡ true → DoesSo zero s r) → DoesSo (row rd) s r
    → DoesSo (if test then zero else row (if test then 1 else rd)) s r
by-register true rd zero row s r e none some = none e
by-register false rd zero row s r e none some = some

zero-or :
    (rd : ℕ) (zero : Row) (row : ℕ → Row) (s : State) (r : Result) → ((rd == 0) ≡ true → DoesSo zero s r)
    → DoesSo (row rd) s r → DoesSo (unless_zero rd zero (row (destination rd))) s r
zero-or rd zero row s r none some = by-register (rd == 0) rd zero row s r refl none some

lost : (rd value : ℕ) (s : State) → (rd == 0) ≡ true → DoesSo Nothing s (gives rd value s)
lost rd value s e = rw e refl

valued :
    (rd value : ℕ) (row : ℕ → Row) (s : State) → DoesSo (row rd) s (gives rd value s)
    → DoesSo (unless_zero rd Nothing (row (destination rd))) s (gives rd value s)
valued rd value row s some = zero-or rd Nothing row s (gives rd value s) (lost rd value s) some

-- Jumps to words.

by-word :
    (test : Bool) (offset : ℕ) (row : Row) (s : State) (r : Result) → (offset % 4 == 0) ≡ test
    → (offset % 4 ≡ 0 → DoesSo row s r) → DoesSo (if test then row else Leave) s r
by-word true offset row s r e here = here (grind (arith, nat_tests))
by-word false offset row s r e here = tt

word-only :
    (offset : ℕ) (row : Row) (s : State) (r : Result) → (offset % 4 ≡ 0 → DoesSo row s r) → DoesSo (to_word offset row) s r
word-only offset row s r here = by-word (offset % 4 == 0) offset row s r refl here

lands13 : (place offset pc : ℕ) → pc ≡ 4 * place → offset % 4 ≡ 0 → address_of (jumped 13 place offset) ≡ sum32 pc (sign_extended 13 offset)
lands13 place offset pc at whole = elim (cases_lt offset 4096) [
  | inl low ↦ grind (arith, nat_tests)
  | inr high ↦ grind (arith, nat_tests)
]

lands21 : (place offset pc : ℕ) → pc ≡ 4 * place → offset % 4 ≡ 0 → address_of (jumped 21 place offset) ≡ sum32 pc (sign_extended 21 offset)
lands21 place offset pc at whole = elim (cases_lt offset 1048576) [
  | inl low ↦ grind (arith, nat_tests)
  | inr high ↦ grind (arith, nat_tests)
]

branched :
    (taken : Bool) (place offset : ℕ) (s : State) → s.pc ≡ 4 * place → offset % 4 ≡ 0
    → next (if taken then go_to (address_of (jumped 13 place offset)) s else behind s) ≡ branch taken offset s
branched true place offset s at whole = ap (λ a. next (go_to a s)) (lands13 place offset s.pc at whole)
branched false place offset s at whole = refl

jal :
    (rd place offset : ℕ) (s : State) → s.pc ≡ 4 * place → offset % 4 ≡ 0
    → DoesSo (unless_zero rd (Jump (jumped 21 place offset)) (JumpAndLink (destination rd) (jumped 21 place offset))) s
    (link rd (sum32 s.pc (sign_extended 21 offset)) s)
jal rd place offset s at whole =
    let lands = lands21 place offset s.pc at whole in
    zero-or rd (Jump (jumped 21 place offset)) (λ d. JumpAndLink d (jumped 21 place offset)) s (link rd (sum32 s.pc (sign_extended 21 offset)) s)
    (λ e. rw (e, lands) refl) (ap (λ a. link rd a s) lands)

-- the row of an instruction does what it does
pub row_does : (i : Instr) (place : ℕ) (s : State) → s.pc ≡ 4 * place → DoesSo (row_of i place) s (execute i s)
row_does (instr.Lui rd imm) place s at = valued rd _ (λ d. Set d (imm * 4096)) s refl
row_does (instr.Auipc rd imm) place s at =
    valued rd _ (λ d. Set d (sum32 (address_of place) (imm * 4096))) s (ap (λ v. gives rd v s) (let e : sum32 (address_of place) (imm * 4096) ≡ sum32 s.pc (imm * 4096) = omega arith in e))
row_does (instr.Jal rd offset) place s at = word-only offset _ s _ (jal rd place offset s at)
row_does (instr.Jalr rd rs1 offset) place s at =
    zero-or rd (JumpTo rs1 (sign_extended 12 offset)) (λ d. JumpToAndLink d rs1 (sign_extended 12 offset)) s _ (λ e. rw e refl) refl
row_does (instr.Beq rs1 rs2 offset) place s at = word-only offset _ s _ (branched (register s rs1 == register s rs2) place offset s at)
row_does (instr.Bne rs1 rs2 offset) place s at = word-only offset _ s _ (branched (not (register s rs1 == register s rs2)) place offset s at)
row_does (instr.Blt rs1 rs2 offset) place s at = word-only offset _ s _ (branched (less_signed (register s rs1) (register s rs2)) place offset s at)
row_does (instr.Bge rs1 rs2 offset) place s at = word-only offset _ s _ (branched (not (less_signed (register s rs1) (register s rs2))) place offset s at)
row_does (instr.Bltu rs1 rs2 offset) place s at = word-only offset _ s _ (branched (nat_lt (register s rs1) (register s rs2)) place offset s at)
row_does (instr.Bgeu rs1 rs2 offset) place s at = word-only offset _ s _ (branched (not (nat_lt (register s rs1) (register s rs2))) place offset s at)
row_does (instr.Lb rd rs1 offset) place s at = zero-or rd Leave (λ d. Lb d rs1 (sign_extended 12 offset)) s _ (λ e. tt) refl
row_does (instr.Lh rd rs1 offset) place s at = zero-or rd Leave (λ d. Lh d rs1 (sign_extended 12 offset)) s _ (λ e. tt) refl
row_does (instr.Lw rd rs1 offset) place s at = zero-or rd Leave (λ d. Lw d rs1 (sign_extended 12 offset)) s _ (λ e. tt) refl
row_does (instr.Lbu rd rs1 offset) place s at = zero-or rd Leave (λ d. Lbu d rs1 (sign_extended 12 offset)) s _ (λ e. tt) refl
row_does (instr.Lhu rd rs1 offset) place s at = zero-or rd Leave (λ d. Lhu d rs1 (sign_extended 12 offset)) s _ (λ e. tt) refl
row_does (instr.Sb rs2 rs1 offset) place s at = refl
row_does (instr.Sh rs2 rs1 offset) place s at = refl
row_does (instr.Sw rs2 rs1 offset) place s at = refl
row_does (instr.Addi rd rs1 imm) place s at = valued rd _ (λ d. Addi d rs1 (sign_extended 12 imm)) s refl
row_does (instr.Slti rd rs1 imm) place s at = valued rd _ (λ d. Slti d rs1 (sign_extended 12 imm)) s refl
row_does (instr.Sltiu rd rs1 imm) place s at = valued rd _ (λ d. Sltiu d rs1 (sign_extended 12 imm)) s refl
row_does (instr.Xori rd rs1 imm) place s at = valued rd _ (λ d. Xori d rs1 (sign_extended 12 imm)) s refl
row_does (instr.Ori rd rs1 imm) place s at = valued rd _ (λ d. Ori d rs1 (sign_extended 12 imm)) s refl
row_does (instr.Andi rd rs1 imm) place s at = valued rd _ (λ d. Andi d rs1 (sign_extended 12 imm)) s refl
row_does (instr.Slli rd rs1 shift) place s at = valued rd _ (λ d. Slli d rs1 shift) s refl
row_does (instr.Srli rd rs1 shift) place s at = valued rd _ (λ d. Srli d rs1 shift) s refl
row_does (instr.Srai rd rs1 shift) place s at = valued rd _ (λ d. Srai d rs1 shift) s refl
row_does (instr.Add rd rs1 rs2) place s at = valued rd _ (λ d. Add d rs1 rs2) s refl
row_does (instr.Sub rd rs1 rs2) place s at = valued rd _ (λ d. Sub d rs1 rs2) s refl
row_does (instr.Sll rd rs1 rs2) place s at = valued rd _ (λ d. Sll d rs1 rs2) s refl
row_does (instr.Slt rd rs1 rs2) place s at = valued rd _ (λ d. Slt d rs1 rs2) s refl
row_does (instr.Sltu rd rs1 rs2) place s at = valued rd _ (λ d. Sltu d rs1 rs2) s refl
row_does (instr.Xor rd rs1 rs2) place s at = valued rd _ (λ d. Xor d rs1 rs2) s refl
row_does (instr.Srl rd rs1 rs2) place s at = valued rd _ (λ d. Srl d rs1 rs2) s refl
row_does (instr.Sra rd rs1 rs2) place s at = valued rd _ (λ d. Sra d rs1 rs2) s refl
row_does (instr.Or rd rs1 rs2) place s at = valued rd _ (λ d. Or d rs1 rs2) s refl
row_does (instr.And rd rs1 rs2) place s at = valued rd _ (λ d. And d rs1 rs2) s refl
row_does (instr.Mul rd rs1 rs2) place s at = valued rd _ (λ d. Mul d rs1 rs2) s refl
row_does (instr.Mulh rd rs1 rs2) place s at = valued rd _ (λ d. Mulh d rs1 rs2) s refl
row_does (instr.Mulhsu rd rs1 rs2) place s at = valued rd _ (λ d. Mulhsu d rs1 rs2) s refl
row_does (instr.Mulhu rd rs1 rs2) place s at = valued rd _ (λ d. Mulhu d rs1 rs2) s refl
row_does (instr.Div rd rs1 rs2) place s at = valued rd _ (λ d. Div d rs1 rs2) s refl
row_does (instr.Divu rd rs1 rs2) place s at = valued rd _ (λ d. Divu d rs1 rs2) s refl
row_does (instr.Rem rd rs1 rs2) place s at = valued rd _ (λ d. Rem d rs1 rs2) s refl
row_does (instr.Remu rd rs1 rs2) place s at = valued rd _ (λ d. Remu d rs1 rs2) s refl
row_does (instr.Fence rd rs1 mode predecessor successor) place s at = refl
row_does instr.Ecall place s at = tt
row_does instr.Ebreak place s at = tt

-- the row that is read of a word means the word
read-does : (read : Option Instr) (place : ℕ) (s : State) → s.pc ≡ 4 * place → DoesSo (read_row read place) s (decoded read s)
read-does None place s at = tt
read-does (Some i) place s at = row_does i place s at

pub read_means : (place word : ℕ) → Means (read_row (decode_of word) place) place word
read_means place word s at = read-does (decode_of word) place s at

-- Rows that are kept.

pub kept-none : (arena : List ℕ) → Kept [] arena
kept-none arena = record { fit = omega arith; means = λ place s at. tt }

means-is : (a b : Row) (place word : ℕ) → a ≡ b → Means b place word → Means a place word
means-is a b place word e means = subst (λ row. Means row place word) (sym e) means

-- one row more
pub kept-more :
    (rows : List Row) (arena : List ℕ) (row : Row) → Kept rows arena → length rows < length arena
    → Means row (length rows) (get_or arena (length rows) 0) → Kept (rows ++ row ∷ []) arena
kept-more rows arena row kept room means = record {
  fit = grind (arith, common_steps);
  means = λ place. elim (cases_lt place (length rows)) [
    | inl before ↦ means-is _ _ place _ (get_or_append_left rows (row ∷ []) Leave place before) (kept.means place)
    | inr behind ↦ elim (cases_lt (length rows) place) [
      | inl far ↦ means-is _ Leave place _ (get_or_past (rows ++ row ∷ []) place Leave (grind (arith, common_steps))) (λ s at. tt)
      | inr here ↦
          let same : place ≡ length rows = omega arith in
          subst (λ p. Means (get_or (rows ++ row ∷ []) p Leave) p (get_or arena p 0)) (sym same)
          (means-is _ row _ _ (get_or-append_seam rows row [] Leave) means)
    ]
  ];
}

-- a row at another place means what it did
still-means :
    (rows : List Row) (arena arena' : List ℕ) (place k : ℕ) (row : Row) → Kept rows arena → OneWord place arena arena'
    → (k ≡ place → ⊥) → Means (get_or (slice_set rows place row) k Leave) k (get_or arena' k 0)
still-means rows arena arena' place k row kept one differs =
    means-is _ (get_or rows k Leave) k _ (get_or-set_other rows place k row Leave differs)
    (subst (λ word. Means (get_or rows k Leave) k word) (sym (one.1 k differs)) (kept.means k))

-- another row at a place
pub kept-set :
    (rows : List Row) (arena arena' : List ℕ) (place : ℕ) (row : Row) → Kept rows arena → place < length rows
    → OneWord place arena arena' → Means row place (get_or arena' place 0) → Kept (slice_set rows place row) arena'
kept-set rows arena arena' place row kept within one means = record {
  fit = let n = length-set rows place row in let m = one.0 in let f = kept.fit in omega arith;
  means = λ k. elim (cases_lt k place) [
    | inl before ↦ still-means rows arena arena' place k row kept one (λ same. omega (arith, same, before))
    | inr behind ↦ elim (cases_lt place k) [
      | inl far ↦ still-means rows arena arena' place k row kept one (λ same. omega (arith, same, far))
      | inr here ↦
          let same : k ≡ place = omega arith in
          subst (λ p. Means (get_or (slice_set rows place row) p Leave) p (get_or arena' p 0)) (sym same)
          (means-is _ row _ _ (get_or-set_at rows place place row Leave refl within) means)
    ]
  ];
}

-- the words are the same
pub same_words : (place : ℕ) (arena : List ℕ) → OneWord place arena arena
same_words place arena = (refl, λ k differs. refl)

by-place :
    (test : Bool) (rows : List Row) (arena arena' : List ℕ) (place : ℕ) → nat_lt place (length rows) ≡ test
    → Kept rows arena → OneWord place arena arena' → Kept (if test then slice_set rows place Leave else rows) arena'
by-place true rows arena arena' place e kept one =
    kept-set rows arena arena' place Leave kept (grind (arith, nat_tests)) one (λ s at. tt)
by-place false rows arena arena' place e kept one =
    let past : length rows ≤ place = grind (arith, nat_tests) in
    record {
      fit = let m = one.0 in let f = kept.fit in omega arith;
      means = λ k. elim (cases_lt k (length rows)) [
        | inl before ↦
            subst (λ word. Means (get_or rows k Leave) k word) (sym (one.1 k (λ same. omega (arith, same, before)))) (kept.means k)
        | inr behind ↦ means-is _ Leave k _ (get_or_past rows k Leave behind) (λ s at. tt)
      ];
    }

-- a row given up where its word has changed
pub kept-given_up :
    (rows : List Row) (arena arena' : List ℕ) (place : ℕ) → Kept rows arena → OneWord place arena arena'
    → Kept (given_up place rows) arena'
kept-given_up rows arena arena' place kept one = by-place (nat_lt place (length rows)) rows arena arena' place refl kept one

-- a row that is kept does what the machine's next step does
pub row_steps :
    (rows : List Row) (arena : List ℕ) (row : Row) (place : ℕ) (s : State) → Kept rows arena → length arena ≤ 16777216
    → place < length rows → get_or arena place 0 < 4294967296 → row ≡ get_or rows place Leave → s.pc ≡ address_of place
    → s.memory ≡ bytes_of arena → DoesSo row s (step_of s)
unfolding step_of
row_steps rows arena row place s kept bounded within small is at memory =
    let fit = kept.fit in
    let here : s.pc ≡ 4 * place = omega arith in
    let word = word_there arena place (get_or arena place 0) (slice_get-get_or arena place 0 (omega arith)) (omega arith) in
    let there : number_at 4 s.pc s.memory ≡ Some (get_or arena place 0) = rw (here, memory) word in
    subst (λ found. DoesSo row s (fetched found s)) (sym there) (subst (λ r. DoesSo r s (decoded (decode_of (get_or arena place 0)) s)) (sym is) (kept.means place s here))

-- a row that was read of what a word was decoded as
pub row_means :
    (place word seen : ℕ) (read : Option Instr) (row : Row) → row ≡ read_row read place → read ≡ decode_of seen → seen ≡ word
    → Means row place word
row_means place word seen read row is decoded_so same =
    means-is row (read_row (decode_of word) place) place word
    (is ∙ ap (λ d. read_row d place) (decoded_so ∙ ap decode_of same)) (read_means place word)

-- a row was pushed, or not
pub kept-pushed :
    (test : Bool) (rows rows' : List Row) (arena : List ℕ) (row : Row) (place : ℕ) → Kept rows arena
    → rows' ≡ (if test then rows ++ row ∷ [] else rows) → place ≡ length rows → place < length arena
    → Means row place (get_or arena place 0) → Kept rows' arena
kept-pushed true rows rows' arena row place kept pushed at room means =
    subst (λ list. Kept list arena) (sym pushed)
    (kept-more rows arena row kept (omega arith) (subst (λ p. Means row p (get_or arena p 0)) at means))
kept-pushed false rows rows' arena row place kept pushed at room means = subst (λ list. Kept list arena) (sym pushed) kept

-- the item of a place within, whatever stands for none
pub get_or-any : (rows : List Row) (place : ℕ) (d d' : Row) → place < length rows → get_or rows place d ≡ get_or rows place d'
get_or-any rows place d d' within = get_or_from_slice_get rows place (get_or rows place d') d (slice_get-get_or rows place d' within)

-- as many items written over a list
over : {A : Type 0} (items new : List A) (n : ℕ) → length new ≡ length items → n ≡ length items → take n (new ++ drop (length new) items) ≡ new
over items new n same e =
    ap (λ rest. take n (new ++ rest)) (drop_all (length new) items (omega arith))
    ∙ (ap (take n) (append-nil new) ∙ take_all n new (omega arith))

length-given_up : (test : Bool) (rows : List Row) (place : ℕ) → length (if test then slice_set rows place Leave else rows) ≡ length rows
length-given_up true rows place = length-set rows place Leave
length-given_up false rows place = refl

-- what holds of a machine's contents holds after a store
pub stored-kept :
    (R : Type 0) (items now new : List ℕ) (rows rows_now rows' : List Row) (n m place : ℕ) → now ≡ items → n ≡ length items
    → OneWord place now new → rows_now ≡ rows → m ≡ length rows → rows' ≡ given_up place rows_now → 1 ≤ length items
    → length items ≤ 16777216 → R → Kept rows items
    → (1 ≤ length (take n (new ++ drop (length new) items))) × (length (take n (new ++ drop (length new) items)) ≤ 16777216)
    × R × Kept (take m (rows' ++ drop (length rows') rows)) (take n (new ++ drop (length new) items))
stored-kept R items now new rows rows_now rows' n m place here en one rows_here em given some bounded r kept =
    let one' : OneWord place items new = subst (λ l. OneWord place l new) here one in
    let given' : rows' ≡ given_up place rows = given ∙ ap (given_up place) rows_here in
    let words = over items new n one'.0 en in
    let list = over rows rows' m (ap length given' ∙ length-given_up (nat_lt place (length rows)) rows place) em in
    let long : length (take n (new ++ drop (length new) items)) ≡ length items = ap length words ∙ one'.0 in (
      omega arith,
      omega arith,
      r,
      rw (list, words) (subst (λ l. Kept l new) (sym given') (kept-given_up rows items new place kept one')),
    )
