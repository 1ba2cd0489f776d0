-- The code of a line is the code from its spot, where the spot says what was decided.
use Rattle.std.proofs.Common.{◌≡◌, ℕ, ◌+◌, ◌*◌, ◌^◌, ◌-◌, false, List, [], ◌∷◌, ◌++◌, length, map, refl, ap, ◌∙◌}
use Rattle.std.specs.Prelude.{◌&&◌, ◌==◌, nat_lt, if◌then◌else◌}
use Rattle.rv_encode.specs.declared.instruction.Instr.{Instr}
use Rattle.rv_encode.specs.declared.instruction.Instr.TheVariants.{Lui, Jalr, Beq, Bge, Lw, Sw, Addi, Add, Sub, Slli, Ecall}
use Rattle.mid_code.specs.declared.operation.Callee.{Callee}
use Rattle.mid_code.specs.declared.operation.Callee.TheVariants.{Procedure, Word}
use Rattle.mid_code.specs.declared.operation.Operation.{Operation}
use Rattle.mid_code.specs.declared.operation.Operation.TheVariants as operation
use Rattle.mid_code.specs.declared.operation.Test.{Test}
use Rattle.mid_code.specs.Arena.{header_words}
use Rattle.mid_lines.specs.declared.line.Line.{Line}
use Rattle.mid_lines.specs.declared.line.Line.TheVariants.{Do, Branch, Switch, Jump, Lay, Landed, GiveBack, Lend, GiveBackLent, Return, Cut, Halt, Unhandled}
use Rattle.back_places.specs.declared.place.Place.{Place}
use Rattle.back_places.specs.declared.place.Place.TheVariants.{InRegister, AsConstant}
use Rattle.back_places.specs.Places.{Located, Way, way_at, depth_in}
use Rattle.back_places.specs.Operands.{high_part, low_part, address_code, load_into, read_in, read_code, given_in, keep_code, move_code}
use Rattle.back_places.specs.Selection.{compute_code, branch_code, jump_code, low_12}
use Rattle.back_places.specs.Passing.{pass_code}
use Rattle.back_places.specs.Blocks.{raise_code, room_code, full_here_code}
use Rattle.back_places.specs.LineCode.{request_code, link_code, table_jump_code, sources, before_call_code, tested_code, lent_code, line_code, behind_code, operation_code}
use Rattle.back_allocation.specs.Names.{named_callee, named_operation, named_line}
use Rattle.back_allocation.specs.Places.{place_at}
use Rattle.back_emit.specs.declared.spots.Spot.{Spot}
use Rattle.back_emit.specs.Ways.{way_of}
use Rattle.back_emit.specs.PlacedCode.{placed_before_call, placed_arguments, placed_operation, placed_tested, placed_lent, placed_line, placed_behind}
use Rattle.back_emit.specs.Agree.{AgreesAt, LawOfSpots}

two : {A B : Type 0} (f : A → B → List Instr) (a a' : A) (b b' : B) → a ≡ a' → b ≡ b' → f a b ≡ f a' b'
two f a a' b b' e g = ap (λ x. f x b) e ∙ ap (λ y. f a' y) g

three : {A B C : Type 0} (f : A → B → C → List Instr) (a a' : A) (b b' : B) (c c' : C) → a ≡ a' → b ≡ b' → c ≡ c' → f a b c ≡ f a' b' c'
three f a a' b b' c c' e g h = ap (λ x. f x b c) e ∙ two (f a') b b' c c' g h

four : {A B C D : Type 0} (f : A → B → C → D → List Instr) (a a' : A) (b b' : B) (c c' : C) (d d' : D) → a ≡ a' → b ≡ b' → c ≡ c' → d ≡ d' → f a b c d ≡ f a' b' c' d'
four f a a' b b' c c' d d' e g h i = ap (λ x. f x b c d) e ∙ three (f a') b b' c c' d d' g h i

module _ (l : Located) (places : List Place) (number frame line : ℕ) (s : Spot) (f g : ℕ → ℕ) where
  abbrev S : ℕ → Place
  S v = l.source number line v

  abbrev T : Place
  T = l.target number line

  abbrev W : Way
  W = way_at l number line

  abbrev V : Way
  V = way_of s.way

  sources_are : ((v : ℕ) → S v ≡ place_at places (f v)) → (vs : List ℕ) → sources l number line vs ≡ map (place_at places) (map f vs)
  sources_are e [] = refl
  sources_are e (v ∷ vs) = ap (λ p. p ∷ sources l number line vs) (e v) ∙ ap (λ ps. place_at places (f v) ∷ ps) (sources_are e vs)

  passed_same : (x : Line) → AgreesAt l places number frame line s x f g → (vs : List ℕ) → pass_code l.arguments_at W (sources l number line vs) ≡ placed_arguments places s (map f vs)
  passed_same x a vs =
      three pass_code l.arguments_at s.arguments_at W V (sources l number line vs) (map (place_at places) (map f vs)) a.arguments_at a.way (sources_are a.source vs)

  pub before_same :
      (x : Line) → AgreesAt l places number frame line s x f g → (callee : Callee) (vs : List ℕ) → before_call_code l number line callee vs ≡ placed_before_call places s (named_callee f g callee) (map f vs)
  before_same x a (Procedure n) vs = passed_same x a vs
  before_same x a (Word r) vs =
      two (λ b c. b ++ c) (load_into W 6 (S r)) (load_into V 6 (place_at places (f r))) (pass_code l.arguments_at W (sources l number line vs)) (placed_arguments places s (map f vs))
      (two (λ w p. load_into w 6 p) W V (S r) (place_at places (f r)) a.way (a.source r)) (passed_same x a vs)

  call_same :
      (to : ℕ) (callee : Callee) (vs : List ℕ) → AgreesAt l places number frame line s (Do (operation.Call to callee vs)) f g
      → operation_code l number line (operation.Call to callee vs) ≡ placed_operation places s (named_operation f g (operation.Call to callee vs))
  call_same to (Procedure n) vs a =
      four (λ b k at e. b ++ jump_code k 1 (at + length b) e) (before_call_code l number line (Procedure n) vs) (placed_before_call places s (Procedure n) (map f vs))
      (l.near number line) s.near (l.line_at number line) s.at (l.entry_at n) s.to (before_same (Do (operation.Call to (Procedure n) vs)) a (Procedure n) vs) a.near a.at a.goes
  call_same to (Word r) vs a =
      two (λ b t. b ++ table_jump_code t) (before_call_code l number line (Word r) vs) (placed_before_call places s (Word (f r)) (map f vs)) l.procedures_at s.procedures_at
      (before_same (Do (operation.Call to (Word r) vs)) a (Word r) vs) a.procedures_at

  operation_same : (o : Operation) → AgreesAt l places number frame line s (Do o) f g → operation_code l number line o ≡ placed_operation places s (named_operation f g o)
  operation_same (operation.Move to from) a = three move_code W V (S from) (place_at places (f from)) T (place_at places (g to)) a.way (a.source from) a.target
  operation_same (operation.Constant to word) a = two (λ w q. move_code w (AsConstant word) q) W V T (place_at places (g to)) a.way a.target
  operation_same (operation.Compute to which first second) a =
      four (λ w p q t. compute_code w p q t which) W V (S first) (place_at places (f first)) (S second) (place_at places (f second)) T (place_at places (g to)) a.way (a.source first) (a.source second) a.target
  operation_same (operation.Load to base offset) a =
      three (λ w p q. read_code w 5 p ++ (Lw (given_in q) (read_in 5 p) (low_12 offset) ∷ keep_code w q)) W V (S base) (place_at places (f base)) T (place_at places (g to)) a.way (a.source base) a.target
  operation_same (operation.Store from base offset) a =
      three (λ w p q. read_code w 5 p ++ (read_code w 6 q ++ (Sw (read_in 5 p) (read_in 6 q) (low_12 offset) ∷ []))) W V (S from) (place_at places (f from)) (S base) (place_at places (f base)) a.way (a.source from) (a.source base)
  operation_same (operation.Request to words) a = three request_code W V (S words) (place_at places (f words)) T (place_at places (g to)) a.way (a.source words) a.target
  operation_same (operation.Draw to base offset) a =
      three (λ w p q. read_code w 6 p ++ (Lw 5 (read_in 6 p) (low_12 offset) ∷ Addi 5 5 1 ∷ Beq 5 0 0 ∷ Sw 5 (read_in 6 p) (low_12 offset) ∷ move_code w (InRegister 5) q)) W V (S base) (place_at places (f base)) T (place_at places (g to))
      a.way (a.source base) a.target
  operation_same (operation.Put from) a = two (λ w p. load_into w 10 p ++ Addi 17 0 1 ∷ Ecall ∷ []) W V (S from) (place_at places (f from)) a.way (a.source from)
  operation_same (operation.Get to) a = two (λ w q. Addi 17 0 2 ∷ Ecall ∷ move_code w (InRegister 10) q) W V T (place_at places (g to)) a.way a.target
  operation_same (operation.Call to callee vs) a = call_same to callee vs a

  pub tested_same : (x : Line) → AgreesAt l places number frame line s x f g → (first second : ℕ) → tested_code l number line first second ≡ placed_tested places s (f first) (f second)
  tested_same x a first second =
      three (λ w p q. read_code w 5 p ++ read_code w 6 q) W V (S first) (place_at places (f first)) (S second) (place_at places (f second)) a.way (a.source first) (a.source second)

  lent_same : (x : Line) → AgreesAt l places number frame line s x f g → (block : ℕ) → T ≡ place_at places (g block) → lent_code l number line ≡ placed_lent places s (g block)
  lent_same x a block e =
      two (λ w q. Addi (given_in q) 2 (4 * header_words) ∷ keep_code w q) (way_at l number (line + 1)) (way_of s.next_way) T (place_at places (g block)) a.next_way e

  branch_same :
      (test : Test) (otherwise : ℕ) → AgreesAt l places number frame line s (Branch test otherwise) f g → line_code l number frame line (Branch test otherwise) ≡ placed_line places s (named_line f g (Branch test otherwise))
  branch_same test otherwise a =
      four (λ b k at e. b ++ branch_code k test.comparison (read_in 5 (S test.first)) (read_in 6 (S test.second)) (at + length b) e) (tested_code l number line test.first test.second)
      (placed_tested places s (f test.first) (f test.second)) (l.near number line) s.near (l.line_at number line) s.at (l.line_at number otherwise) s.to (tested_same (Branch test otherwise) a test.first test.second) a.near a.at
      a.goes
      ∙ two (λ p q. placed_tested places s (f test.first) (f test.second) ++ branch_code s.near test.comparison (read_in 5 p) (read_in 6 q) (s.at + length (placed_tested places s (f test.first) (f test.second))) s.to) (S test.first)
      (place_at places (f test.first)) (S test.second) (place_at places (f test.second)) (a.source test.first) (a.source test.second)

  jump_same : (to : ℕ) → AgreesAt l places number frame line s (Jump to) f g → line_code l number frame line (Jump to) ≡ placed_line places s (named_line f g (Jump to))
  jump_same to a =
      four (λ n at e next. if nat_lt n to && (e == next) then [] else jump_code (l.near number line) 0 at e) line s.line (l.line_at number line) s.at (l.line_at number to) s.to (l.line_at number (line + 1)) s.next
      a.line_is a.at a.goes a.next
      ∙ ap (λ k. if nat_lt s.line to && (s.to == s.next) then [] else jump_code k 0 s.at s.to) a.near

  pub line_same : (x : Line) → AgreesAt l places number frame line s x f g → line_code l number frame line x ≡ placed_line places s (named_line f g x)
  line_same (Do o) a = operation_same o a
  line_same (Branch test otherwise) a = branch_same test otherwise a
  line_same (Switch r targets) a =
      three (λ w p t. read_code w 5 p ++ (Slli 5 (read_in 5 p) 2 ∷ Lui 7 (high_part (4 * t)) ∷ Add 5 5 7 ∷ Lw 5 5 (low_part (4 * t)) ∷ Jalr 0 5 0 ∷ [])) W V (S r) (place_at places (f r)) (l.table_at number line) s.table
      a.way (a.source r) a.table
  line_same (Jump to) a = jump_same to a
  line_same (Lay block words landing) a =
      four (λ full at e b. room_code full at (words + header_words) ++ (address_code 5 e ++ (Sw 5 2 0 ∷ b))) l.full_at s.full_at (l.line_at number line) s.at (l.line_at number landing) s.to (lent_code l number line)
      (placed_lent places s (g block)) a.full_at a.at a.goes (lent_same (Lay block words landing) a block a.target)
  line_same (Landed r) a = two (λ w q. move_code w (InRegister 12) q) W V T (place_at places (g r)) a.way a.target
  line_same (GiveBack words) a = refl
  line_same (Lend block words) a =
      three (λ w p b. load_into w 10 p ++ (Addi 10 10 header_words ∷ Slli 5 10 2 ∷ Sub 5 2 5 ∷ Bge 5 3 20 ∷ full_here_code ++ (Sw 2 5 4 ∷ Addi 2 5 0 ∷ b))) W V (S words) (place_at places (f words)) (lent_code l number line)
      (placed_lent places s (g block)) a.way (a.source words) (lent_same (Lend block words) a block a.target)
  line_same GiveBackLent a = refl
  line_same (Return r) a =
      four (λ w p k n. (load_into w 12 p ++ (link_code w k ++ raise_code (depth_in w + n))) ++ Jalr 0 1 0 ∷ []) W V (S r) (place_at places (f r)) (l.linked number line) false frame s.frame a.way (a.source r) a.linked a.frame_is
  line_same (Cut block word) a =
      three (λ w p q. load_into w 5 p ++ (load_into w 12 q ++ (Addi 2 5 (2 ^ 12 - 4 * header_words) ∷ Lw 5 2 0 ∷ Jalr 0 5 0 ∷ []))) W V (S block) (place_at places (f block)) (S word) (place_at places (f word)) a.way (a.source block)
      (a.source word)
  line_same (Halt r) a = two (λ w p. load_into w 10 p ++ Addi 17 0 0 ∷ Ecall ∷ []) W V (S r) (place_at places (f r)) a.way (a.source r)
  line_same (Unhandled class site condition) a =
      four (λ w p q c. load_into w 10 p ++ (load_into w 11 q ++ (load_into w 12 c ++ Addi 17 0 3 ∷ Ecall ∷ []))) W V (S class) (place_at places (f class)) (S site) (place_at places (f site)) (S condition) (place_at places (f condition)) a.way
      (a.source class) (a.source site) (a.source condition)

  behind_operation_same :
      (o : Operation) → AgreesAt l places number frame line s (Do o) f g → behind_code l number line (Do o) ≡ placed_behind places s (Do (named_operation f g o))
  behind_operation_same (operation.Call to callee vs) a = two (λ w q. move_code w (InRegister 12) q) W V T (place_at places (g to)) a.way a.target
  behind_operation_same (operation.Move to from) a = refl
  behind_operation_same (operation.Constant to word) a = refl
  behind_operation_same (operation.Compute to which first second) a = refl
  behind_operation_same (operation.Load to base offset) a = refl
  behind_operation_same (operation.Store from base offset) a = refl
  behind_operation_same (operation.Request to words) a = refl
  behind_operation_same (operation.Draw to base offset) a = refl
  behind_operation_same (operation.Put from) a = refl
  behind_operation_same (operation.Get to) a = refl

  pub behind_same : (x : Line) → AgreesAt l places number frame line s x f g → behind_code l number line x ≡ placed_behind places s (named_line f g x)
  behind_same (Do o) a = behind_operation_same o a
  behind_same (Branch test otherwise) a = refl
  behind_same (Switch r targets) a = refl
  behind_same (Jump to) a = refl
  behind_same (Lay block words landing) a = refl
  behind_same (Landed r) a = refl
  behind_same (GiveBack words) a = refl
  behind_same (Lend block words) a = refl
  behind_same GiveBackLent a = refl
  behind_same (Return r) a = refl
  behind_same (Cut block word) a = refl
  behind_same (Halt r) a = refl
  behind_same (Unhandled class site condition) a = refl

pub law_of_spots : LawOfSpots
law_of_spots l places number frame line s x f g a = (line_same l places number frame line s f g x a, behind_same l places number frame line s f g x a)
