-- The digits of an integer: those of a number from its first one on, each printed behind those in front of it.
use Rattle.std.proofs.Common.{◌≡◌, ◌≤◌, ◌<◌, ℕ, zero, suc, ◌+◌, ◌-◌, ◌*◌, ◌/◌, ◌%◌, pos, negsuc, ◌+ℤ◌, ◌-ℤ◌, Bool, true, false, ◌&&◌, List, [], ◌∷◌, ◌++◌, refl, sym, ap, subst, ◌∙◌, Option, Some, None, length, length-append, slice_get, append_assoc, nat_lt, arith, if◌then◌else◌}
use Rattle.std.specs.Prelude.{⊤, codes, int_le, int_lt}
use Rattle.std.proofs.lemmas.Bool.Decides.{nat_tests}
use Rattle.base.specs.Data as datum
use Rattle.base.specs.declared.datum.Name.{Name}
use Rattle.lang_meaning.specs.declared.program.ProgramRows.{ProgramRows}
use Rattle.lang_meaning.specs.declared.primitive.Primitive.TheVariants.{NumberGreater}
use Rattle.lang_meaning.specs.Form.{Form, no_form, form_and, parameters, local, literal, call, prim, sequence, let_form, no_binding, binding_and}
use Rattle.lang_meaning.specs.Values.{Value, nil, object, integer, character, symbol, truth as truth_of}
use Rattle.lang_meaning.specs.Objects.{Object, output_stream}
use Rattle.lang_meaning.specs.State.{State, DynamicContext, Evaluated, Limit}
use Rattle.lang_meaning.specs.Lookup.{text, under_number, numbered}
use Rattle.lang_meaning.specs.Literals.{symbol_of, function_row}
use Rattle.lang_meaning.specs.Captured.{has_box}
use Rattle.lang_meaning.specs.Primitives.{floor_quotient, floor_remainder, integer_result, division, says}
use Rattle.lang_meaning.specs.Signals.{Signals, signal, apply_row, takes, apply_procedure}
use Rattle.lang_library_laws.specs.Structures.{object_in}
use Rattle.lang_library_laws.specs.Decimal.{digit, digits_within, natural_digits}
use Rattle.lang_library_laws.specs.Applications.{GivesPrinting, GivesKeeping, Prints, IsBegun, IsExtended, IsOutput, HasText, HasLiteral, IsNamed, at_level}
use Rattle.lang_library_laws.specs.ListBodies.{one, two, a_procedure}
use Rattle.lang_library_laws.specs.NumberBodies.{when, emit, digit_function, emit_digit, emit_last, emit_natural, emit_signed, front_digits, emit_form}
use Rattle.lang_library_laws.specs.Laws.{LawOfDigits}
use Rattle.lang_library_laws.proofs.Decimals.{begun_none, begun_all, begun_front, begun_behind, digit_is, remainder_is, first_remainder, last_is, sum_is, quotient_is, front_is, minus_range, range_below, range_above, natural_range}
use Rattle.lang_library_laws.proofs.Frames.{nothing_added, get_kept, Places, Setting, at, ComesPrinting, a_form, in_order, weaker, at_frame, at_store}
use Rattle.lang_library_laws.proofs.Evaluates.{Arguments, comes_local, comes_literal, comes_sequence, then_nothing, first_then, comes_clauses, clause_taken, clause_passed, no_clause_left, body_form, no_arguments_left, argument_and, no_bindings_left, value_and, comes_let}
use Rattle.lang_library_laws.proofs.OfPrimitives.{comes_integers, comes_char_at, comes_put, ranged, said_to_be}
use Rattle.lang_library_laws.proofs.Applies.{setting_printing, applies, applies_printing, called, called_printing, comes_call}
use Rattle.lang_library_laws.proofs.ListsKept.{here, elsewhere}

abbrev library_digits : List ℕ
library_digits = codes "0123456789ABCDEFGHIJKLMNOPQRSTUVWXYZ"

-- behind a text another one is printed, and a beginning of it where there is no value
abbrev PrintsBehind : List ℕ → List Object → Limit → (levels enough : ℕ) → State → (whole : List ℕ) → Evaluated → Type 0
PrintsBehind said kept limit k enough z whole r = GivesPrinting (IsBegun said whole) (said ++ whole) kept limit k enough z (λ v store. ⊤) r

-- a procedure prints what its body does
applies_saying : (names : List (List ℕ)) (program : ProgramRows) (limit : Limit) (z : State) (kept : List Object) (enough : ℕ) (number : ℕ)
    (name : Option Name) (required : List ℕ) (body : Form) (vs : List Value) (said whole : List ℕ)
    → z.printed ≡ said → IsExtended Object kept z.store → slice_get program.procedures number ≡ Some (a_procedure name required body)
    → ((v : ℕ) → has_box v body ≡ false) → takes (length required) false (length vs) ≡ true
    → ((levels : ℕ) → ComesPrinting (setting_printing (IsBegun said whole) names program limit z kept (suc levels) (suc enough)) said (said ++ whole)
    (numbered (parameters required None) 0) (a_form levels body) vs z.store (λ v frame store. ⊤))
    → (k : ℕ) (wrong : Signals) (around : DynamicContext)
    → PrintsBehind said kept limit k (suc enough) z whole (apply_procedure (at_level names program limit k) wrong number None vs around z)
applies_saying names program limit z kept enough number name required body vs said whole p e there none count c =
    applies_printing (IsBegun said whole) (said ++ whole) names program limit z kept enough number name required None body vs (λ v store. ⊤) e
    (subst (IsBegun said whole) (sym p) (begun_none said whole)) there none count
    (λ levels ws now g. at_frame g.0 (at_store g.1
    (subst (λ text. ComesPrinting (setting_printing (IsBegun said whole) names program limit z kept (suc levels) (suc enough)) text (said ++ whole)
    (numbered (parameters required None) 0) (a_form levels body) vs z.store (λ v frame store. ⊤)) (sym p) (c levels))))

-- the variables of functions of a stream, a number and a radix
abbrev places_of : ℕ → Places
places_of v = (v, 0) ∷ (v + 1, 1) ∷ (v + 2, 2) ∷ []

at_stream : (v : ℕ) (ps : Places) → under_number v ((v, 0) ∷ ps) ≡ Some 0
at_stream v ps = here v 0 ps

at_number : (v : ℕ) (ps : Places) → under_number (v + 1) ((v, 0) ∷ (v + 1, 1) ∷ ps) ≡ Some 1
at_number v ps = elsewhere (v + 1) v 0 ((v + 1, 1) ∷ ps) (grind (arith, nat_tests)) (here (v + 1) 1 ps)

at_radix : (v : ℕ) (ps : Places) → under_number (v + 2) ((v, 0) ∷ (v + 1, 1) ∷ (v + 2, 2) ∷ ps) ≡ Some 2
at_radix v ps =
    elsewhere (v + 2) v 0 ((v + 1, 1) ∷ (v + 2, 2) ∷ ps) (grind (arith, nat_tests))
    (elsewhere (v + 2) (v + 1) 1 ((v + 2, 2) ∷ ps) (grind (arith, nat_tests)) (here (v + 2) 2 ps))

output_kept : {kept store : List Object} → IsExtended Object kept store → (v : Value) → IsOutput kept v → object_in store v ≡ Some output_stream
output_kept {kept} {store} e v h = ap (object_in store) h.1 ∙ get_kept e h.0 _ h.2

module _ (names : List (List ℕ)) (program : ProgramRows) (limit : Limit) (kept : List Object) (stream : Value) (is_output : IsOutput kept stream) where
  -- a character
  put_gives : (name : Option Name) (v number : ℕ) → slice_get program.procedures number ≡ Some (emit name v)
      → (z : State) (said : List ℕ) → z.printed ≡ said → IsExtended Object kept z.store → (w : Value) (c : ℕ) → w ≡ character c
      → (k : ℕ) (wrong : Signals) (around : DynamicContext)
      → PrintsBehind said kept limit k 1 z (c ∷ []) (apply_procedure (at_level names program limit k) wrong number None (stream ∷ w ∷ []) around z)
  put_gives name v number there z said p e w c is =
      applies_saying names program limit z kept 0 number name (v ∷ (v + 1) ∷ []) _ (stream ∷ w ∷ []) said (c ∷ []) p e there (λ u. refl) refl
      (λ levels. comes_sequence (first_then (comes_put (begun_all said (c ∷ []))
      (comes_local v 0 (at_stream v ((v + 1, 1) ∷ [])) (comes_local (v + 1) 1 (at_number v [])
      (output_kept e stream is_output, is, then_nothing tt))))))

  module _ (digits : ℕ) (has_text : HasText names program kept digits library_digits) where
    -- the character of a digit
    byte_gives : (name : Option Name) (v number : ℕ) → slice_get program.procedures number ≡ Some (digit_function name v digits)
        → (z : State) → IsExtended Object kept z.store → (d : ℕ) → d < 10 → (k : ℕ) (wrong : Signals) (around : DynamicContext)
        → GivesKeeping kept limit k 1 z (λ w store. w ≡ character (digit d))
        (apply_procedure (at_level names program limit k) wrong number None (integer (pos d) ∷ []) around z)
    byte_gives name v number there z e d small =
        applies names program limit z kept 0 number name (v ∷ []) _ (integer (pos d) ∷ []) (λ w store. w ≡ character (digit d)) e there (λ u. refl) refl
        (λ levels. comes_sequence (first_then (comes_char_at
        (comes_literal digits (datum.item has_text.place (datum.string library_digits)) (object has_text.number) has_text.row has_text.is (comes_local v 0 (here v 0 []) (
          library_digits,
          d,
          get_kept e has_text.number _ has_text.there,
          refl,
          omega (arith, small),
          then_nothing (ap character (digit_is d small)),
        ))))))

    module _ (put_name byte_name : Option Name) (put_v byte_v put byte : ℕ) (puts : IsNamed names program put (emit put_name put_v))
        (bytes : IsNamed names program byte (digit_function byte_name byte_v digits)) where
      -- a digit
      digit_gives : (name : Option Name) (v number : ℕ) → slice_get program.procedures number ≡ Some (emit_digit name v put byte)
          → (z : State) (said : List ℕ) → z.printed ≡ said → IsExtended Object kept z.store → (d : ℕ) → d < 10
          → (k : ℕ) (wrong : Signals) (around : DynamicContext)
          → PrintsBehind said kept limit k 2 z (digit d ∷ [])
          (apply_procedure (at_level names program limit k) wrong number None (stream ∷ integer (pos d) ∷ []) around z)
      digit_gives name v number there z said p e d small =
          let whole : List ℕ = digit d ∷ [] in
          applies_saying names program limit z kept 1 number name (v ∷ (v + 1) ∷ []) _ (stream ∷ integer (pos d) ∷ []) said whole p e there (λ u. refl) refl
          (λ levels. comes_sequence (first_then (comes_call (argument_and (comes_local v 0 (at_stream v ((v + 1, 1) ∷ []))
          (argument_and (comes_call (argument_and (comes_local (v + 1) 1 (at_number v []) (no_arguments_left
          (called (λ w store. w ≡ character (digit d)) 1 (λ few. omega (arith, few)) kept (nothing_added kept)
          (λ w more st e is. no_arguments_left
          (called_printing (IsBegun said whole) (said ++ whole) (λ text b. b) (begun_all said whole) (λ w store. ⊤) 1 (λ few. omega (arith, few))
          kept (nothing_added kept) (λ w more st e done. then_nothing tt) put (emit put_name put_v) puts (stream ∷ w ∷ []) (λ y h wrong around.
          put_gives put_name put_v puts.number puts.there y said h.printed_are (subst (IsExtended Object kept) (sym h.objects_are) h.extended)
          w (digit d) is levels wrong around)))
          byte (digit_function byte_name byte_v digits) bytes (integer (pos d) ∷ []) (λ y h wrong around.
          byte_gives byte_name byte_v bytes.number bytes.there y (subst (IsExtended Object kept) (sym h.objects_are) h.extended) d small levels wrong around))))))))))))

      module _ (last_name natural_name : Option Name) (last_v v last natural : ℕ) (lasts : IsNamed names program last (emit_digit last_name last_v put byte))
          (naturals : IsNamed names program natural (emit_natural natural_name v natural last)) where
        -- the last digit, behind those that are printed
        digit_called : (May : List ℕ → Type 0) (z : State) (lv en k : ℕ) (said : List ℕ) (d : ℕ) (frame : List Value) (store : List Object) (places : Places)
            (Q : Value → List Value → List Object → Type 0) → ((w : Value) (more : List Value) (st : List Object) → Q w (frame ++ more) st)
            → d < 10 → ((text : List ℕ) → IsBegun said (digit d ∷ []) text → May text) → (k < 2 → lv < en)
            → Arguments (setting_printing May names program limit z kept lv en) said (said ++ digit d ∷ []) places k no_form (stream ∷ integer (pos d) ∷ []) frame store
            (λ around vs after. apply_row (at (setting_printing May names program limit z kept lv en) k)
            (signal (at (setting_printing May names program limit z kept lv en) k)) (text names last) (function_row names program.functions (text names last)) vs around after)
            Q
        digit_called May z lv en k said d frame store places Q goes_on small may short =
            no_arguments_left (called_printing (IsBegun said (digit d ∷ [])) (said ++ digit d ∷ []) may (may (said ++ digit d ∷ []) (begun_all said (digit d ∷ [])))
            (λ w store. ⊤) 2 short kept (nothing_added kept) (λ w more st e done. goes_on w more st) last (emit_digit last_name last_v put byte) lasts
            (stream ∷ integer (pos d) ∷ []) (λ y h wrong around.
            digit_gives last_name last_v lasts.number lasts.there y said h.printed_are (subst (IsExtended Object kept) (sym h.objects_are) h.extended) d small k wrong around))

        last_comes : (May : List ℕ → Type 0) (z : State) (lv en k : ℕ) (said : List ℕ) (n : ℕ) (others : List Value) (store : List Object) (u : Value)
            → n ≤ 536870911 → ((text : List ℕ) → IsBegun said (digit (n % 10) ∷ []) text → May text) → (k < 2 → lv < en)
            → ComesPrinting (setting_printing May names program limit z kept lv en) said (said ++ digit (n % 10) ∷ []) (places_of v)
            (in_order k u (one (emit_last v last))) (stream ∷ integer (pos n) ∷ integer (pos 10) ∷ others) store (λ w fr st. ⊤)
        last_comes May z lv en k said n others store u fits may short =
            first_then (comes_call (argument_and (comes_local v 0 (at_stream v ((v + 1, 1) ∷ (v + 2, 2) ∷ []))
            (argument_and (comes_integers (division floor_remainder) (λ a b z. refl)
            (comes_local (v + 1) 1 (at_number v ((v + 2, 2) ∷ [])) (comes_local (v + 2) 2 (at_radix v []) (
              pos n,
              pos 10,
              integer (pos (n % 10)),
              refl,
              refl,
              ranged (floor_remainder (pos n) (pos 10)) (pos (n % 10)) (remainder_is n) (natural_range (n % 10) (omega (arith, fits))),
              digit_called May z lv en k said (n % 10) _ store (places_of v) _ (λ w more st. then_nothing tt) (omega arith) may short,
            ))))))))

        -- a number below ten
        one_digit : (n : ℕ) → n < 10 → (z : State) (said : List ℕ) → z.printed ≡ said → IsExtended Object kept z.store → (k : ℕ) (wrong : Signals) (around : DynamicContext)
            → PrintsBehind said kept limit k 3 z (digit n ∷ [])
            (apply_procedure (at_level names program limit k) wrong naturals.number None (stream ∷ integer (pos n) ∷ integer (pos 10) ∷ []) around z)
        one_digit n small z said p e =
            let whole : List ℕ = digit n ∷ [] in
            let same : n % 10 ≡ n = omega arith in
            applies_saying names program limit z kept 2 naturals.number natural_name (v ∷ (v + 1) ∷ (v + 2) ∷ []) _
            (stream ∷ integer (pos n) ∷ integer (pos 10) ∷ []) said whole p e naturals.there (λ u. refl) refl
            (λ levels. comes_sequence (first_then (comes_clauses (clause_passed (comes_integers (λ a b z. says (int_le b a) z) (λ a b z. refl)
            (comes_local (v + 1) 1 (at_number v ((v + 2, 2) ∷ [])) (comes_local (v + 2) 2 (at_radix v []) (
              pos n,
              pos 10,
              nil,
              refl,
              refl,
              said_to_be (int_le (pos 10) (pos n)) false (grind (arith, nat_tests)),
              (
                refl,
                no_clause_left (subst (λ d. ComesPrinting (setting_printing (IsBegun said whole) names program limit z kept (suc levels) 3) said (said ++ digit d ∷ []) (places_of v)
                    (in_order levels nil (one (emit_last v last))) (stream ∷ integer (pos n) ∷ integer (pos 10) ∷ []) z.store (λ w fr st. ⊤)) same
                    (last_comes (IsBegun said whole) z (suc levels) 3 levels said n [] z.store nil (omega (arith, small))
                    (λ text b. subst (λ d. IsBegun said (digit d ∷ []) text) same b) (λ few. omega (arith, few)))),
              ),
            ))))))))

        -- and a larger one, behind the digits of its quotient
        more_digits : (n : ℕ) → 10 ≤ n → n ≤ 536870911 → (front : List ℕ)
            → ((z : State) (said : List ℕ) → z.printed ≡ said → IsExtended Object kept z.store → (k : ℕ) (wrong : Signals) (around : DynamicContext)
            → PrintsBehind said kept limit k (length front + 2) z front
            (apply_procedure (at_level names program limit k) wrong naturals.number None (stream ∷ integer (pos (n / 10)) ∷ integer (pos 10) ∷ []) around z))
            → (z : State) (said : List ℕ) → z.printed ≡ said → IsExtended Object kept z.store → (k : ℕ) (wrong : Signals) (around : DynamicContext)
            → PrintsBehind said kept limit k (length (front ++ digit (n % 10) ∷ []) + 2) z (front ++ digit (n % 10) ∷ [])
            (apply_procedure (at_level names program limit k) wrong naturals.number None (stream ∷ integer (pos n) ∷ integer (pos 10) ∷ []) around z)
        more_digits n large fits front front_gives z said p e k wrong around =
            let d : List ℕ = digit (n % 10) ∷ [] in
            let whole : List ℕ = front ++ d in
            let size : length (front ++ d) ≡ length front + 1 = length-append front d in
            let enough : suc (length front + 2) ≡ length whole + 2 = omega (arith, size) in
            subst (λ m. PrintsBehind said kept limit k m z whole
            (apply_procedure (at_level names program limit k) wrong naturals.number None (stream ∷ integer (pos n) ∷ integer (pos 10) ∷ []) around z)) enough
            (applies_saying names program limit z kept (length front + 2) naturals.number natural_name (v ∷ (v + 1) ∷ (v + 2) ∷ []) _
            (stream ∷ integer (pos n) ∷ integer (pos 10) ∷ []) said whole p e naturals.there (λ u. refl) refl
            (λ levels.
            let s : Setting = setting_printing (IsBegun said whole) names program limit z kept (suc levels) (suc (length front + 2)) in
            comes_sequence (first_then (comes_clauses (clause_taken (comes_integers (λ a b z. says (int_le b a) z) (λ a b z. refl)
            (comes_local (v + 1) 1 (at_number v ((v + 2, 2) ∷ [])) (comes_local (v + 2) 2 (at_radix v []) (
              pos n,
              pos 10,
              truth_of true,
              refl,
              refl,
              said_to_be (int_le (pos 10) (pos n)) true (grind (arith, nat_tests)),
              (
                refl,
                body_form (comes_sequence (first_then (comes_call (argument_and (comes_local v 0 (at_stream v ((v + 1, 1) ∷ (v + 2, 2) ∷ []))
                    (argument_and (comes_integers (division floor_quotient) (λ a b z. refl)
                    (comes_local (v + 1) 1 (at_number v ((v + 2, 2) ∷ [])) (comes_local (v + 2) 2 (at_radix v []) (
                      pos n,
                      pos 10,
                      integer (pos (n / 10)),
                      refl,
                      refl,
                      ranged (floor_quotient (pos n) (pos 10)) (pos (n / 10)) refl (natural_range (n / 10) (omega (arith, fits))),
                      argument_and (comes_local (v + 2) 2 (at_radix v []) (no_arguments_left
                          (called_printing (IsBegun said front) (said ++ front) (begun_front said front d) (begun_front said front d (said ++ front) (begun_all said front))
                          (λ w store. ⊤) (length front + 2) (λ few. omega (arith, few)) kept (nothing_added kept)
                          (λ w more st e done. then_nothing (subst (λ text. ComesPrinting s (said ++ front) text (places_of v)
                          (in_order levels w (one (emit_last v last))) (stream ∷ integer (pos n) ∷ integer (pos 10) ∷ more) st (λ w fr st. ⊤)) (append_assoc said front d)
                          (last_comes (IsBegun said whole) z (suc levels) (suc (length front + 2)) levels (said ++ front) n more st w fits
                          (begun_behind said front d) (λ few. omega (arith, few)))))
                          natural (emit_natural natural_name v natural last) naturals (stream ∷ integer (pos (n / 10)) ∷ integer (pos 10) ∷ []) (λ y h wrong around.
                          front_gives y said h.printed_are (subst (IsExtended Object kept) (sym h.objects_are) h.extended) levels wrong around)))),
                    )))))))))),
              ),
            )))))))) k wrong around)

        natural_gives : (most n : ℕ) → n < most → n ≤ 536870911 → (z : State) (said : List ℕ) → z.printed ≡ said → IsExtended Object kept z.store
            → (k : ℕ) (wrong : Signals) (around : DynamicContext)
            → PrintsBehind said kept limit k (length (digits_within most n) + 2) z (digits_within most n)
            (apply_procedure (at_level names program limit k) wrong naturals.number None (stream ∷ integer (pos n) ∷ integer (pos 10) ∷ []) around z)
        natural_gives zero n small fits z said p e k wrong around = absurd (omega arith)
        natural_gives (suc most) n small fits z said p e k wrong around = by (nat_lt n 10) refl (natural_gives most (n / 10))
          where
            by : (b : Bool) → nat_lt n 10 ≡ b
                → (n / 10 < most → n / 10 ≤ 536870911 → (z : State) (said : List ℕ) → z.printed ≡ said → IsExtended Object kept z.store
                → (k : ℕ) (wrong : Signals) (around : DynamicContext)
                → PrintsBehind said kept limit k (length (digits_within most (n / 10)) + 2) z (digits_within most (n / 10))
                (apply_procedure (at_level names program limit k) wrong naturals.number None (stream ∷ integer (pos (n / 10)) ∷ integer (pos 10) ∷ []) around z))
                → PrintsBehind said kept limit k (length (if b then digit n ∷ [] else digits_within most (n / 10) ++ digit (n % 10) ∷ []) + 2) z
                (if b then digit n ∷ [] else digits_within most (n / 10) ++ digit (n % 10) ∷ [])
                (apply_procedure (at_level names program limit k) wrong naturals.number None (stream ∷ integer (pos n) ∷ integer (pos 10) ∷ []) around z)
            by true is front = let below : n < 10 = grind (arith, nat_tests) in one_digit n below z said p e k wrong around
            by false is front =
                let above : 10 ≤ n = grind (arith, nat_tests) in
                let fewer : n / 10 < most = omega (arith, above, small) in
                let least : n / 10 ≤ 536870911 = omega (arith, fits) in
                more_digits n above fits (digits_within most (n / 10)) (front fewer least) z said p e k wrong around

        module _ (minus least : ℕ) (is_minus : HasLiteral program minus (datum.character 45)) (is_least : HasLiteral program least (datum.integer (pos 0))) (w n : ℕ)
            (fits : n ≤ 536870912) where
          -- the variables of the function of integers, with the last digit and the number in front of it
          abbrev inner : Places
          inner = (w + 4, 4) ∷ (w + 3, 3) ∷ places_of w

          inner_stream : under_number w inner ≡ Some 0
          inner_stream = elsewhere w (w + 4) 4 ((w + 3, 3) ∷ places_of w) (grind (arith, nat_tests)) (elsewhere w (w + 3) 3 (places_of w) (grind (arith, nat_tests)) (at_stream w ((w + 1, 1) ∷ (w + 2, 2) ∷ [])))

          inner_radix : under_number (w + 2) inner ≡ Some 2
          inner_radix = elsewhere (w + 2) (w + 4) 4 ((w + 3, 3) ∷ places_of w) (grind (arith, nat_tests)) (elsewhere (w + 2) (w + 3) 3 (places_of w) (grind (arith, nat_tests)) (at_radix w []))

          inner_last : under_number (w + 3) inner ≡ Some 3
          inner_last = elsewhere (w + 3) (w + 4) 4 ((w + 3, 3) ∷ places_of w) (grind (arith, nat_tests)) (here (w + 3) 3 (places_of w))

          inner_front : under_number (w + 4) inner ≡ Some 4
          inner_front = here (w + 4) 4 ((w + 3, 3) ∷ places_of w)

          abbrev inner_frame : Value → List Value → List Value
          inner_frame x others = stream ∷ x ∷ integer (pos 10) ∷ integer (pos (n % 10)) ∷ integer (pos (n / 10)) ∷ others

          -- the digits behind the sign
          abbrev front_form : Form
          front_form = when (prim NumberGreater (two (local (w + 4)) (literal least))) (call natural (form_and (local w) (two (local (w + 4)) (local (w + 2)))))

          abbrev last_form : Form
          last_form = call last (two (local w) (local (w + 3)))

          last_behind : (May : List ℕ → Type 0) (z : State) (lv en k : ℕ) (said : List ℕ) (x : Value) (others : List Value) (store : List Object) (u : Value)
              → ((text : List ℕ) → IsBegun said (digit (n % 10) ∷ []) text → May text) → (k < 2 → lv < en)
              → ComesPrinting (setting_printing May names program limit z kept lv en) said (said ++ digit (n % 10) ∷ []) inner
              (in_order k u (one last_form)) (inner_frame x others) store (λ w fr st. ⊤)
          last_behind May z lv en k said x others store u may short =
              first_then (comes_call (argument_and (comes_local w 0 inner_stream (argument_and (comes_local (w + 3) 3 inner_last
              (digit_called May z lv en k said (n % 10) _ store inner _ (λ w more st. then_nothing tt) (omega arith) may short))))))

          digits_behind : (May : List ℕ → Type 0) (z : State) (lv en k : ℕ) (said : List ℕ) (x : Value) (others : List Value) (store : List Object) (u : Value) (b : Bool)
              → nat_lt n 10 ≡ b
              → ((text : List ℕ) → IsBegun said (if b then digit n ∷ [] else digits_within n (n / 10) ++ digit (n % 10) ∷ []) text → May text)
              → (k < length (if b then digit n ∷ [] else digits_within n (n / 10) ++ digit (n % 10) ∷ []) + 2 → lv < en)
              → ComesPrinting (setting_printing May names program limit z kept lv en) said
              (said ++ (if b then digit n ∷ [] else digits_within n (n / 10) ++ digit (n % 10) ∷ [])) inner
              (in_order k u (two front_form last_form)) (inner_frame x others) store (λ w fr st. ⊤)
          digits_behind May z lv en k said x others store u true is may short =
              let small : n < 10 = grind (arith, nat_tests) in
              let same : n % 10 ≡ n = omega arith in
              first_then (comes_clauses (clause_passed (comes_integers (λ a b z. says (int_lt b a) z) (λ a b z. refl) (comes_local (w + 4) 4 inner_front
              (comes_literal least (datum.item is_least.0 (datum.integer (pos 0))) (integer (pos 0)) is_least.1 refl (
                pos (n / 10),
                pos 0,
                nil,
                refl,
                refl,
                said_to_be (int_lt (pos 0) (pos (n / 10))) false (grind (arith, nat_tests)),
                (
                  refl,
                  no_clause_left (subst (λ d. ComesPrinting (setting_printing May names program limit z kept lv en) said (said ++ digit d ∷ []) inner
                      (in_order k nil (one last_form)) (inner_frame x others) store (λ w fr st. ⊤)) same
                      (last_behind May z lv en k said x others store nil (λ text b. may text (subst (λ d. IsBegun said (digit d ∷ []) text) same b))
                      (λ few. short (omega (arith, few))))),
                ),
              ))))))
          digits_behind May z lv en k said x others store u false is may short =
              let above : 10 ≤ n = grind (arith, nat_tests) in
              let front : List ℕ = digits_within n (n / 10) in
              let d : List ℕ = digit (n % 10) ∷ [] in
              let size : length (front ++ d) ≡ length front + 1 = length-append front d in
              first_then (comes_clauses (clause_taken (comes_integers (λ a b z. says (int_lt b a) z) (λ a b z. refl) (comes_local (w + 4) 4 inner_front
              (comes_literal least (datum.item is_least.0 (datum.integer (pos 0))) (integer (pos 0)) is_least.1 refl (
                pos (n / 10),
                pos 0,
                truth_of true,
                refl,
                refl,
                said_to_be (int_lt (pos 0) (pos (n / 10))) true (grind (arith, nat_tests)),
                (
                  refl,
                  body_form (comes_sequence (first_then (comes_call (argument_and (comes_local w 0 inner_stream (argument_and (comes_local (w + 4) 4 inner_front
                      (argument_and (comes_local (w + 2) 2 inner_radix (no_arguments_left
                      (called_printing (IsBegun said front) (said ++ front) (λ text b. may text (begun_front said front d text b))
                      (may (said ++ front) (begun_front said front d (said ++ front) (begun_all said front)))
                      (λ w store. ⊤) (length front + 2) (λ few. short (omega (arith, few, size))) kept (nothing_added kept)
                      (λ u more st e done. then_nothing (subst (λ text. ComesPrinting (setting_printing May names program limit z kept lv en) (said ++ front) text inner
                      (in_order k u (one last_form)) (inner_frame x (others ++ more)) st (λ w fr st. ⊤)) (append_assoc said front d)
                      (last_behind May z lv en k (said ++ front) x (others ++ more) st u (λ text b. may text (begun_behind said front d text b))
                      (λ few. short (omega (arith, few, size))))))
                      natural (emit_natural natural_name v natural last) naturals (stream ∷ integer (pos (n / 10)) ∷ integer (pos 10) ∷ []) (λ y h wrong around.
                      natural_gives n (n / 10) (omega (arith, above)) (omega (arith, fits)) y said h.printed_are
                      (subst (IsExtended Object kept) (sym h.objects_are) h.extended) k wrong around)))))))))))),
                ),
              ))))))

          -- the sign in front of them
          sign_behind : (May : List ℕ → Type 0) (z : State) (lv en k : ℕ) (said : List ℕ) (x : Value) (store : List Object) (u : Value)
              → ((text : List ℕ) → IsBegun said (45 ∷ natural_digits n) text → May text) → (k < length (natural_digits n) + 2 → lv < en)
              → ComesPrinting (setting_printing May names program limit z kept lv en) said (said ++ 45 ∷ natural_digits n) inner
              (in_order k u (form_and (call put (two (local w) (literal minus))) (two front_form last_form))) (inner_frame x []) store (λ w fr st. ⊤)
          sign_behind May z lv en k said x store u may short =
              let signed : List ℕ = said ++ 45 ∷ [] in
              first_then (comes_call (argument_and (comes_local w 0 inner_stream (argument_and
              (comes_literal minus (datum.item is_minus.0 (datum.character 45)) (character 45) is_minus.1 refl (no_arguments_left
              (called_printing (IsBegun said (45 ∷ [])) signed (λ text b. may text (begun_front said (45 ∷ []) (natural_digits n) text b))
              (may signed (begun_front said (45 ∷ []) (natural_digits n) signed (begun_all said (45 ∷ []))))
              (λ w store. ⊤) 1 (λ few. short (omega (arith, few))) kept (nothing_added kept)
              (λ u more st e done. subst (λ text. ComesPrinting (setting_printing May names program limit z kept lv en) signed text inner
              (in_order k u (two front_form last_form)) (inner_frame x more) st (λ w fr st. ⊤)) (append_assoc said (45 ∷ []) (natural_digits n))
              (digits_behind May z lv en k signed x more st u (nat_lt n 10) refl (λ text b. may text (begun_behind said (45 ∷ []) (natural_digits n) text b)) short))
              put (emit put_name put_v) puts (stream ∷ character 45 ∷ []) (λ y h wrong around.
              put_gives put_name put_v puts.number puts.there y said h.printed_are (subst (IsExtended Object kept) (sym h.objects_are) h.extended)
              (character 45) 45 refl k wrong around))))))))

-- what is bound and captured by nothing is captured by nothing
none_of : (b : Bool) → b && false ≡ false
none_of true = refl
none_of false = refl

boxes_inside : (v minuend' minus least put natural last u : ℕ)
    → has_box u (sequence (one (let_form (binding_and (v + 4) (front_digits v minuend') no_binding)
    (sequence (one (let_form no_binding (emit_signed v minus least put natural last))))))) ≡ false
boxes_inside v minuend' minus least put natural last u = simp none_of

no_boxes : (v bound truth minuend minuend' minus least put natural last u : ℕ)
    → has_box u (sequence (one (emit_form v bound truth minuend minuend' minus least put natural last))) ≡ false
no_boxes v bound truth minuend minuend' minus least put natural last u = simp none_of

pub law_of_digits : LawOfDigits
law_of_digits names program name natural_name last_name put_name byte_name v natural_v last_v put_v byte_v bound truth minuend minuend' minus least digits put natural last byte number
    is_bound is_truth is_minuend is_minuend' is_minus is_least puts bytes lasts naturals there limit k wrong around z stream (pos n) is_output has_text fits =
    let whole : List ℕ = natural_digits n in
    let enough : suc (length whole + 2) ≡ length whole + 3 = omega arith in
    subst (λ m. Prints z.store limit k m z whole (apply_procedure (at_level names program limit k) wrong number None (stream ∷ integer (pos n) ∷ integer (pos 10) ∷ []) around z)) enough
    (applies_saying names program limit z z.store (length whole + 2) number name (v ∷ (v + 1) ∷ (v + 2) ∷ []) _ (stream ∷ integer (pos n) ∷ integer (pos 10) ∷ [])
    z.printed whole refl (nothing_added z.store) there (no_boxes v bound truth minuend minuend' minus least put natural last) refl
    (λ levels. comes_sequence (first_then (comes_clauses (clause_taken (comes_integers (λ a b z. says (int_le b a) z) (λ a b z. refl)
    (comes_local (v + 1) 1 (at_number v ((v + 2, 2) ∷ [])) (comes_literal bound (datum.item is_bound.0 (datum.integer (pos 0))) (integer (pos 0)) is_bound.1 refl (
      pos n,
      pos 0,
      truth_of true,
      refl,
      refl,
      said_to_be (int_le (pos 0) (pos n)) true (grind (arith, nat_tests)),
      (
        refl,
        body_form (comes_sequence (first_then (comes_call (argument_and (comes_local v 0 (at_stream v ((v + 1, 1) ∷ (v + 2, 2) ∷ []))
            (argument_and (comes_local (v + 1) 1 (at_number v ((v + 2, 2) ∷ [])) (argument_and (comes_local (v + 2) 2 (at_radix v []) (no_arguments_left
            (called_printing (IsBegun z.printed whole) (z.printed ++ whole) (λ text b. b) (begun_all z.printed whole) (λ w store. ⊤) (length whole + 2)
            (λ few. omega (arith, few)) z.store (nothing_added z.store) (λ w more st e done. then_nothing (then_nothing tt))
            natural (emit_natural natural_name natural_v natural last) naturals (stream ∷ integer (pos n) ∷ integer (pos 10) ∷ []) (λ y h wrong around.
            natural_gives names program limit z.store stream is_output digits has_text put_name byte_name put_v byte_v put byte puts bytes
            last_name natural_name last_v natural_v last natural lasts naturals (suc n) n (omega arith) (range_above n fits) y z.printed h.printed_are
            (subst (IsExtended Object z.store) (sym h.objects_are) h.extended) levels wrong around)))))))))))),
      ),
    )))))))) k wrong around)
law_of_digits names program name natural_name last_name put_name byte_name v natural_v last_v put_v byte_v bound truth minuend minuend' minus least digits put natural last byte number
    is_bound is_truth is_minuend is_minuend' is_minus is_least puts bytes lasts naturals there limit k wrong around z stream (negsuc n) is_output has_text fits =
    let m : ℕ = suc n in
    let small : n ≤ 536870911 = range_below n fits in
    let whole : List ℕ = 45 ∷ natural_digits m in
    let enough : suc (length whole + 2) ≡ length whole + 3 = omega arith in
    let ps : Places = places_of v in
    let with_last : Places = (v + 3, 3) ∷ ps in
    let number_there : under_number (v + 1) with_last ≡ Some 1 = elsewhere (v + 1) (v + 3) 3 ps (grind (arith, nat_tests)) (at_number v ((v + 2, 2) ∷ [])) in
    let radix_there : under_number (v + 2) with_last ≡ Some 2 = elsewhere (v + 2) (v + 3) 3 ps (grind (arith, nat_tests)) (at_radix v []) in
    subst (λ m. Prints z.store limit k m z whole (apply_procedure (at_level names program limit k) wrong number None (stream ∷ integer (negsuc n) ∷ integer (pos 10) ∷ []) around z)) enough
    (applies_saying names program limit z z.store (length whole + 2) number name (v ∷ (v + 1) ∷ (v + 2) ∷ []) _ (stream ∷ integer (negsuc n) ∷ integer (pos 10) ∷ [])
    z.printed whole refl (nothing_added z.store) there (no_boxes v bound truth minuend minuend' minus least put natural last) refl
    (λ levels. comes_sequence (first_then (comes_clauses (clause_passed (comes_integers (λ a b z. says (int_le b a) z) (λ a b z. refl)
    (comes_local (v + 1) 1 (at_number v ((v + 2, 2) ∷ [])) (comes_literal bound (datum.item is_bound.0 (datum.integer (pos 0))) (integer (pos 0)) is_bound.1 refl (
      negsuc n,
      pos 0,
      nil,
      refl,
      refl,
      said_to_be (int_le (pos 0) (negsuc n)) false refl,
      (
        refl,
        clause_taken (comes_literal truth (datum.item is_truth.1.0 (datum.symbol is_truth.0)) (symbol (symbol_of names is_truth.0)) is_truth.1.1 refl (
          refl,
          body_form (comes_sequence (first_then (comes_let (value_and (comes_integers (division floor_remainder) (λ a b z. refl)
              (comes_integers (λ a b. integer_result (a -ℤ b)) (λ a b z. refl)
              (comes_literal minuend (datum.item is_minuend.0 (datum.integer (pos 0))) (integer (pos 0)) is_minuend.1 refl
              (comes_integers (division floor_remainder) (λ a b z. refl)
              (comes_local (v + 1) 1 (at_number v ((v + 2, 2) ∷ [])) (comes_local (v + 2) 2 (at_radix v []) (
                negsuc n,
                pos 10,
                integer (pos (9 - n % 10)),
                refl,
                refl,
                ranged (floor_remainder (negsuc n) (pos 10)) (pos (9 - n % 10)) (first_remainder n) (natural_range (9 - n % 10) (omega arith)),
                (
                  pos 0,
                  pos (9 - n % 10),
                  integer (pos 0 -ℤ pos (9 - n % 10)),
                  refl,
                  refl,
                  ranged (pos 0 -ℤ pos (9 - n % 10)) (pos 0 -ℤ pos (9 - n % 10)) refl (minus_range (9 - n % 10) (omega arith)),
                  comes_local (v + 2) 2 (at_radix v []) (
                    pos 0 -ℤ pos (9 - n % 10),
                    pos 10,
                    integer (pos (m % 10)),
                    refl,
                    refl,
                    ranged (floor_remainder (pos 0 -ℤ pos (9 - n % 10)) (pos 10)) (pos (m % 10)) (last_is n) (natural_range (m % 10) (omega arith)),
                    no_bindings_left (boxes_inside v minuend' minus least put natural last) (comes_sequence (first_then (comes_let (value_and
                        (comes_integers (λ a b. integer_result (a -ℤ b)) (λ a b z. refl)
                        (comes_literal minuend' (datum.item is_minuend'.0 (datum.integer (pos 0))) (integer (pos 0)) is_minuend'.1 refl
                        (comes_integers (division floor_quotient) (λ a b z. refl)
                        (comes_integers (λ a b. integer_result (a +ℤ b)) (λ a b z. refl)
                        (comes_local (v + 1) 1 number_there (comes_local (v + 3) 3 (here (v + 3) 3 ps) (
                          negsuc n,
                          pos (m % 10),
                          integer (pos 0 -ℤ pos (10 * (m / 10))),
                          refl,
                          refl,
                          ranged (negsuc n +ℤ pos (m % 10)) (pos 0 -ℤ pos (10 * (m / 10))) (sum_is n) (minus_range (10 * (m / 10)) (omega (arith, small))),
                          comes_local (v + 2) 2 radix_there (
                            pos 0 -ℤ pos (10 * (m / 10)),
                            pos 10,
                            integer (pos 0 -ℤ pos (m / 10)),
                            refl,
                            refl,
                            ranged (floor_quotient (pos 0 -ℤ pos (10 * (m / 10))) (pos 10)) (pos 0 -ℤ pos (m / 10)) (quotient_is (m / 10)) (minus_range (m / 10) (omega (arith, small))),
                            (
                              pos 0,
                              pos 0 -ℤ pos (m / 10),
                              integer (pos (m / 10)),
                              refl,
                              refl,
                              ranged (pos 0 -ℤ (pos 0 -ℤ pos (m / 10))) (pos (m / 10)) (front_is (m / 10)) (natural_range (m / 10) (omega (arith, small))),
                              no_bindings_left (λ u. simp none_of) (comes_sequence (first_then (comes_let (no_bindings_left (λ u. refl) (comes_sequence (weaker
                                  (sign_behind names program limit z.store stream is_output digits has_text put_name byte_name put_v byte_v put byte puts bytes
                                  last_name natural_name last_v natural_v last natural lasts naturals minus least is_minus is_least v m (omega (arith, small))
                                  (IsBegun z.printed whole) z (suc levels) (suc (length whole + 2)) levels z.printed (integer (negsuc n)) z.store nil
                                  (λ text b. b) (λ few. omega (arith, few)))
                                  (λ w fr st done. then_nothing (then_nothing (then_nothing (then_nothing tt)))))))))),
                            ),
                          ),
                        ))))))))))),
                  ),
                ),
              ))))))))))),
        )),
      ),
    )))))))) k wrong around)
