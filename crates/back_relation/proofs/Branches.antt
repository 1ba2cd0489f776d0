-- Clauses and loops wherever they stand, from what is shown of their parts wherever these stand.
use Rattle.std.proofs.Common.{◌≡◌, ℕ, zero, suc, ◌+◌, ◌<◌, ◌≤◌, Bool, true, false, List, [], ◌∷◌, ◌++◌, length, Option, Some, None, refl, sym, subst, arith}
use Rattle.flat_language.specs.FlatExits.{LeadClauses}
use Rattle.flat_language.specs.FlatFits.{FitClauses}
use Rattle.flat_language.specs.FlatForm.{FlatForm, clauses, while_form, FlatClauses, no_clause, clause_and, FlatBody, no_body, with_body}
use Rattle.flat_language.specs.FlatStanding.{StandClauses}
use Rattle.mid_code.specs.declared.operation.Counted.TheVariants.{Level}
use Rattle.mid_code.specs.MidCode.{MidStep, MidCode, repeat, choose, no_step, code_of}
use Rattle.mid_arena.specs.Tags.{nil_word}
use Rattle.back_lowering.specs.Codes.{lower, lower_clauses, lower_clause, known_truth}
use Rattle.back_lowering.specs.Primitives.{value_judged}
use Rattle.back_lowering.specs.Registers.{of_code, enough_for}
use Rattle.back_lowering.specs.Steps.{Steps, constant}
use Rattle.back_relation.specs.Setting.{Setting}
use Rattle.back_relation.specs.Placed.{PlacedClauses}
use Rattle.back_relation.specs.Room.{words_for, words_for_clauses}
use Rattle.back_relation.specs.Activation.{FormScope}
use Rattle.back_relation.specs.Forms.{FormStands, DoesForm, JudgesForm, context_at, code_at, judged}
use Rattle.back_relation.specs.FormLaws.{ClauseHere, ClausesHere, ClausesDo, LawOfWholeClauses, LawOfWholeWhiles}
use Rattle.back_relation.specs.Points.{Point, Here, JudgedHere, LoopHere}
use Rattle.back_relation.proofs.Clauses.{clauses_here}
use Rattle.back_relation.proofs.Fitting.{enough_front, enough_behind, registers_front, registers_behind}
use Rattle.back_relation.proofs.Levels.{loops_law, whiles_law}
use Rattle.back_relation.proofs.Points.{does_here}

-- the registers of the two ways of a choice, or of the two parts of a loop, behind the two that are compared
front_way : (f g : ℕ) (is js : List ℕ) (size : ℕ) → enough_for ((f ∷ g ∷ (is ++ js)) ++ []) ≤ size → enough_for is ≤ size
front_way f g is js size h = let a = enough_front (f ∷ g ∷ (is ++ js)) [] in let b = enough_front is js in omega (arith, h, a, b)

behind_way : (f g : ℕ) (is js : List ℕ) (size : ℕ) → enough_for ((f ∷ g ∷ (is ++ js)) ++ []) ≤ size → enough_for js ≤ size
behind_way f g is js size h = let a = enough_front (f ∷ g ∷ (is ++ js)) [] in let b = enough_behind is js in omega (arith, h, a, b)

module _ (setting : Setting) where
  -- a form is judged where it stands, and the registers and the words are there
  judged_here :
      (s : FormScope) (d m size k n : ℕ) (f : FlatForm) (first : ℕ) → JudgesForm setting n (context_at setting k) (code_at setting k n) f → FormStands setting s first f
      → enough_for (of_code (code_of (judged setting s d f).ready)) ≤ size → words_for setting.names setting.program f ≤ m → JudgedHere setting s d m size k n f
  judged_here s d m size k n f first judges stands registers words p =
      judges p.rs p.valid s d m first p.w p.env p.around p.z p.regs p.y stands p.begins
      (subst (λ l. enough_for (of_code (code_of (judged setting s d f).ready)) ≤ l) (sym p.count) registers) words

  module _ (k n : ℕ) where
    module _ (s : FormScope) (d m size first : ℕ) (test : FlatForm) (cs : FlatClauses) (exits_known : length s.exits.own ≡ s.flat.exits) where
      abbrev others_code : Steps
      others_code = lower_clauses setting.names setting.at setting.program s.code d cs

      -- what is known of the registers of clauses
      abbrev Fitting : Steps → Type 0
      Fitting ss = enough_for (of_code (code_of ss)) ≤ size

      -- a clause in one scope, where the others are known there
      clause_here :
          (known : Option Bool) (body : FlatBody) → ClausesDo setting k n (clause_and test body cs)
          → StandClauses setting.program.lambdas s.flat first (clause_and test body cs) → FitClauses setting.program (clause_and test body cs)
          → LeadClauses setting.leads.functions s.exits (clause_and test body cs) → PlacedClauses setting s.keeps_method (clause_and test body cs)
          → words_for_clauses setting.names setting.program (clause_and test body cs) ≤ m
          → (Others : Type 0) → (Fitting others_code → Others)
          → Fitting (lower_clause setting.names setting.at setting.program s.code d known (lower setting.names setting.at setting.program s.code d test) body others_code)
          → ClauseHere setting s d m size k n known test body Others
      unfolding lower
      clause_here (Some true) no_body does stands fits leads placed words Others others registers =
          does_here setting s d m size k n test first does.0
          (record { stands = stands.0; fits = fits.0; leads = leads.0; placed = placed.0; forms_known = exits_known })
          registers (omega (arith, words))
      clause_here (Some true) (with_body f) does stands fits leads placed words Others others registers =
          does_here setting s d m size k n f first does.1
          (record { stands = stands.1; fits = fits.1; leads = leads.1; placed = placed.1; forms_known = exits_known })
          registers (omega (arith, words))
      clause_here (Some false) body does stands fits leads placed words Others others registers = others registers
      clause_here None (with_body f) does stands fits leads placed words Others others registers =
          let ready : Steps = (lower setting.names setting.at setting.program s.code d test).judged.ready in
          let body : MidCode = code_of (lower setting.names setting.at setting.program s.code d f).value in
          let t = (lower setting.names setting.at setting.program s.code d test).judged.test in
          let chosen = registers_behind ready (choose t body (code_of others_code) ∷ []) size registers in (
            judged_here s d m size k n test first does.0
                (record { stands = stands.0; fits = fits.0; leads = leads.0; placed = placed.0; forms_known = exits_known })
                (registers_front ready (choose t body (code_of others_code) ∷ []) size registers) (omega (arith, words)),
            does_here setting s d m size k n f first does.1
                (record { stands = stands.1; fits = fits.1; leads = leads.1; placed = placed.1; forms_known = exits_known })
                (front_way t.first t.second (of_code body) (of_code (code_of others_code)) size chosen) (omega (arith, words)),
            others (behind_way t.first t.second (of_code body) (of_code (code_of others_code)) size chosen),
          )
      clause_here None no_body does stands fits leads placed words Others others registers =
          let value : Steps = (lower setting.names setting.at setting.program s.code d test).value in
          let last : Steps = choose (value_judged d).test no_step (code_of others_code) ∷ [] in
          let made = registers_front (value ++ (value_judged d).ready) last size registers in
          let chosen = registers_behind (value ++ (value_judged d).ready) last size registers in
          let front = registers_behind value (value_judged d).ready size made in (
            omega (arith, front),
            does_here setting s d m size k n test first does.0
                (record { stands = stands.0; fits = fits.0; leads = leads.0; placed = placed.0; forms_known = exits_known })
                (registers_front value (value_judged d).ready size made) (omega (arith, words)),
            others (behind_way d (d + 1) [] (of_code (code_of others_code)) size chosen),
          )

    -- clauses in one scope
    all_here :
        (s : FormScope) (d m size first : ℕ) (cs : FlatClauses) → ClausesDo setting k n cs → StandClauses setting.program.lambdas s.flat first cs
        → FitClauses setting.program cs → LeadClauses setting.leads.functions s.exits cs → PlacedClauses setting s.keeps_method cs → length s.exits.own ≡ s.flat.exits
        → enough_for (of_code (code_of (lower_clauses setting.names setting.at setting.program s.code d cs))) ≤ size
        → words_for_clauses setting.names setting.program cs ≤ m → ClausesHere setting s d m size k n cs
    unfolding lower
    all_here s d m size first no_clause does stands fits leads placed known registers words = tt
    all_here s d m size first (clause_and test no_body cs) does stands fits leads placed known registers words =
        clause_here s d m size first test cs known (known_truth setting.at setting.program.literals test) no_body does stands fits leads placed words
        (ClausesHere setting s d m size k n cs)
        (λ fitting. all_here s d m size first cs does.1 stands.2 fits.2 leads.2 placed.2 known fitting (omega (arith, words)))
        registers
    all_here s d m size first (clause_and test (with_body f) cs) does stands fits leads placed known registers words =
        clause_here s d m size first test cs known (known_truth setting.at setting.program.literals test) (with_body f) does stands fits leads placed words
        (ClausesHere setting s d m size k n cs)
        (λ fitting. all_here s d m size first cs does.2 stands.2 fits.2 leads.2 placed.2 known fitting (omega (arith, words)))
        registers

  pub whole_clauses : (k turns : ℕ) (cs : FlatClauses) → ClausesDo setting k turns cs → DoesForm setting turns (context_at setting k) (code_at setting k turns) (clauses cs)
  unfolding lower
  whole_clauses k turns cs does rs valid s d n first w env around z regs y stands begins registers words =
      clauses_here setting s d n (length regs) k turns cs
      (all_here k turns s d n (length regs) first cs does stands.stands stands.fits stands.leads stands.placed stands.forms_known registers words)
      (record { rs = rs; valid = valid; w = w; env = env; around = around; z = z; regs = regs; y = y; begins = begins; count = refl })

  -- ---- loops

  -- the parts of a loop do what they mean at all levels down to the last one
  abbrev PartsDo : (k : ℕ) (t body : FlatForm) → Type 0
  PartsDo k t body =
      (j n : ℕ) → j ≤ k → n ≤ setting.turns_each
      → JudgesForm setting n (context_at setting j) (code_at setting j n) t × DoesForm setting n (context_at setting j) (code_at setting j n) body

  module _ (t body : FlatForm) (s : FormScope) (d m size first : ℕ) (stands : FormStands setting s first (while_form t body))
      (registers : enough_for (of_code (code_of (lower setting.names setting.at setting.program s.code d (while_form t body)).value)) ≤ size)
      (words : words_for setting.names setting.program (while_form t body) ≤ m) where
    abbrev ready : MidCode
    ready = code_of (lower setting.names setting.at setting.program s.code d t).judged.ready

    abbrev inside : MidCode
    inside = code_of (lower setting.names setting.at setting.program s.code d body).value

    abbrev the_loop : MidStep
    the_loop = repeat Level ready (lower setting.names setting.at setting.program s.code d t).judged.test inside

    named : enough_for (of_code (code_of (the_loop ∷ []))) ≤ size
    unfolding lower
    named = registers_front (the_loop ∷ []) (constant d nil_word ∷ []) size registers

    test_here : (k n : ℕ) → JudgesForm setting n (context_at setting k) (code_at setting k n) t → JudgedHere setting s d m size k n t
    test_here k n judges =
        judged_here s d m size k n t first judges (record { stands = stands.stands.0; fits = stands.fits.0; leads = stands.leads.0; placed = stands.placed.0; forms_known = stands.forms_known })
        (front_way (lower setting.names setting.at setting.program s.code d t).judged.test.first (lower setting.names setting.at setting.program s.code d t).judged.test.second (of_code ready)
        (of_code inside) size named)
        (omega (arith, words))

    body_here : (k n : ℕ) → DoesForm setting n (context_at setting k) (code_at setting k n) body → Here setting s d m size k n body
    body_here k n does =
        does_here setting s d m size k n body first does
        (record { stands = stands.stands.1; fits = stands.fits.1; leads = stands.leads.1; placed = stands.placed.1; forms_known = stands.forms_known })
        (behind_way (lower setting.names setting.at setting.program s.code d t).judged.test.first (lower setting.names setting.at setting.program s.code d t).judged.test.second (of_code ready)
        (of_code inside) size named)
        (omega (arith, words))

    -- the loop at a level
    loops_here : (k : ℕ) → PartsDo k t body → LoopHere setting s d m size k setting.turns_each t body
    loops_here zero does =
        let here = does zero setting.turns_each (omega arith) (omega arith) in
        loops_law setting s d m size zero setting.turns_each t body (omega arith) (test_here zero setting.turns_each here.0) (body_here zero setting.turns_each here.1)
        (λ j same. absurd (omega (arith, same)))
    loops_here (suc k) does =
        let here = does (suc k) setting.turns_each (omega arith) (omega arith) in
        loops_law setting s d m size (suc k) setting.turns_each t body (omega arith) (test_here (suc k) setting.turns_each here.0) (body_here (suc k) setting.turns_each here.1)
        (λ j same. let e : k ≡ j = omega (arith, same) in
        subst (λ l. LoopHere setting s d m size l setting.turns_each t body) e (loops_here k (λ i n low h. does i n (omega (arith, low)) h)))

    below : (k : ℕ) → PartsDo k t body → (j : ℕ) → k ≡ suc j → LoopHere setting s d m size j setting.turns_each t body
    below k does j same = loops_here j (λ i n low h. does i n (omega (arith, same, low)) h)

  pub whole_whiles : (k turns : ℕ) (t body : FlatForm) → turns ≤ setting.turns_each → PartsDo k t body → DoesForm setting turns (context_at setting k) (code_at setting k turns) (while_form t body)
  whole_whiles k turns t body fewer does rs valid s d n first w env around z regs y stands begins registers words =
      let here = does k turns (omega arith) fewer in
      whiles_law setting s d n (length regs) k turns t body fewer (test_here t body s d n (length regs) first stands registers words k turns here.0)
      (body_here t body s d n (length regs) first stands registers words k turns here.1) (below t body s d n (length regs) first stands registers words k does)
      (record { rs = rs; valid = valid; w = w; env = env; around = around; z = z; regs = regs; y = y; begins = begins; count = refl })

pub whole_clauses_law : LawOfWholeClauses
whole_clauses_law setting k turns cs does = whole_clauses setting k turns cs does

pub whole_whiles_law : LawOfWholeWhiles
whole_whiles_law setting k turns t body fewer does = whole_whiles setting k turns t body fewer does
