-- The ways at the lines of a tree are those past its records.
use Rattle.std.proofs.Common.{◌≡◌, ℕ, ◌+◌, List, [], ◌∷◌, ◌++◌, map, refl, sym, ap, ◌∙◌}
use Rattle.std.proofs.lemmas.List.{map-append}
use Rattle.mid_code.specs.Arena.{header_words}
use Rattle.mid_code.specs.MidCode.{MidStep, perform, choose, switch, repeat, with_block, lend, return_word, cut_to, halt_with, end_unhandled, MidCode, no_step, step_and, MidCodes, no_code, code_and}
use Rattle.mid_lines.specs.StaticRecords.{StaticRecord, of_landing, only_lent, step_records, code_records, codes_records}
use Rattle.mid_lines.specs.Flattened.{step_line_count, line_count}
use Rattle.back_places.specs.Places as places
use Rattle.back_trivial.specs.KnownRecords.{known_records}
use Rattle.back_emit.specs.declared.ways.FrameWay.{FrameWay}
use Rattle.back_emit.specs.declared.ways.FrameWay.TheVariants.{FromStack, PastLent, NoWay}
use Rattle.back_emit.specs.Ways.{way_of}
use Rattle.back_emit.specs.TreeWays.{past_record, past_block, step_ways, code_ways, codes_ways, LawOfTreeWays}

record_past : (words : ℕ) (way : FrameWay) → way_of (past_record words way) ≡ places.past_record words (way_of way)
record_past words (FromStack depth) = refl
record_past words (PastLent depth) = refl
record_past words NoWay = refl

block_past : (way : FrameWay) → way_of (past_block way) ≡ places.past_block (way_of way)
block_past (FromStack depth) = refl
block_past (PastLent depth) = refl
block_past NoWay = refl

-- the way past records
abbrev past : List StaticRecord → places.Way
past records = places.way_of (known_records records)

join : (xs ys : List FrameWay) (as' bs : List (List StaticRecord)) → map way_of xs ≡ map past as' → map way_of ys ≡ map past bs → map way_of (xs ++ ys) ≡ map past (as' ++ bs)
join xs ys as' bs e g = map-append way_of xs ys ∙ ap (λ k. k ++ map way_of ys) e ∙ ap (λ k. map past as' ++ k) g ∙ sym (map-append past as' bs)

more : (w : FrameWay) (r : List StaticRecord) (ws : List FrameWay) (rs : List (List StaticRecord)) → way_of w ≡ past r → map way_of ws ≡ map past rs → map way_of (w ∷ ws) ≡ map past (r ∷ rs)
more w r ws rs e g = ap (λ k. k ∷ map way_of ws) e ∙ ap (λ k. past r ∷ k) g

mutual
  step_same : (at : ℕ) (s : MidStep) (w : FrameWay) (r : List StaticRecord) → way_of w ≡ past r → map way_of (step_ways w s) ≡ map past (step_records at s r)
  step_same at (perform o) w r e = more w r [] [] e refl
  step_same at (choose t first second) w r e =
      more w r _ _ e
      (join (code_ways w first) (w ∷ (code_ways w second ++ w ∷ [])) (code_records (at + 1) first r) (r ∷ (code_records (at + 1 + line_count first + 1) second r ++ r ∷ []))
      (code_same (at + 1) first w r e)
      (more w r (code_ways w second ++ w ∷ []) (code_records (at + 1 + line_count first + 1) second r ++ r ∷ []) e
      (join (code_ways w second) (w ∷ []) (code_records (at + 1 + line_count first + 1) second r) (r ∷ []) (code_same (at + 1 + line_count first + 1) second w r e) (more w r [] [] e refl))))
  step_same at (switch register codes) w r e = more w r (codes_ways w codes) (codes_records (at + 1) codes r) e (codes_same (at + 1) codes w r e)
  step_same at (repeat counted head t body) w r e =
      join (code_ways w head) (w ∷ (code_ways w body ++ w ∷ [])) (code_records at head r) (r ∷ (code_records (at + line_count head + 1) body r ++ r ∷ [])) (code_same at head w r e)
      (more w r (code_ways w body ++ w ∷ []) (code_records (at + line_count head + 1) body r ++ r ∷ []) e
      (join (code_ways w body) (w ∷ []) (code_records (at + line_count head + 1) body r) (r ∷ []) (code_same (at + line_count head + 1) body w r e) (more w r [] [] e refl)))
  step_same at (with_block block words word inside landing) w r e =
      let w' = past_record (words + header_words) w in
      let r' : List StaticRecord = of_landing words (at + 1 + line_count inside + 2) ∷ r in
      let e' = record_past (words + header_words) w ∙ ap (places.past_record (words + header_words)) e in
      more w r (code_ways w' inside ++ (w' ∷ w ∷ w' ∷ (code_ways w' landing ++ w' ∷ [])))
      (code_records (at + 1) inside r' ++ (r' ∷ r ∷ r' ∷ (code_records (at + 1 + line_count inside + 3) landing r' ++ r' ∷ []))) e
      (join (code_ways w' inside) (w' ∷ w ∷ w' ∷ (code_ways w' landing ++ w' ∷ [])) (code_records (at + 1) inside r')
      (r' ∷ r ∷ r' ∷ (code_records (at + 1 + line_count inside + 3) landing r' ++ r' ∷ []))
      (code_same (at + 1) inside w' r' e')
      (more w' r' (w ∷ w' ∷ (code_ways w' landing ++ w' ∷ [])) (r ∷ r' ∷ (code_records (at + 1 + line_count inside + 3) landing r' ++ r' ∷ [])) e'
      (more w r (w' ∷ (code_ways w' landing ++ w' ∷ [])) (r' ∷ (code_records (at + 1 + line_count inside + 3) landing r' ++ r' ∷ [])) e
      (more w' r' (code_ways w' landing ++ w' ∷ []) (code_records (at + 1 + line_count inside + 3) landing r' ++ r' ∷ []) e'
      (join (code_ways w' landing) (w' ∷ []) (code_records (at + 1 + line_count inside + 3) landing r') (r' ∷ []) (code_same (at + 1 + line_count inside + 3) landing w' r' e') (more w' r' [] [] e' refl))))))
  step_same at (lend block words inside) w r e =
      let w' = past_block w in
      let r' : List StaticRecord = only_lent ∷ r in
      let e' = block_past w ∙ ap places.past_block e in
      more w r (code_ways w' inside ++ w' ∷ []) (code_records (at + 1) inside r' ++ r' ∷ []) e
      (join (code_ways w' inside) (w' ∷ []) (code_records (at + 1) inside r') (r' ∷ []) (code_same (at + 1) inside w' r' e') (more w' r' [] [] e' refl))
  step_same at (return_word x) w r e = more w r [] [] e refl
  step_same at (cut_to block word) w r e = more w r [] [] e refl
  step_same at (halt_with x) w r e = more w r [] [] e refl
  step_same at (end_unhandled class site condition) w r e = more w r [] [] e refl

  code_same : (at : ℕ) (c : MidCode) (w : FrameWay) (r : List StaticRecord) → way_of w ≡ past r → map way_of (code_ways w c) ≡ map past (code_records at c r)
  code_same at no_step w r e = refl
  code_same at (step_and s c) w r e =
      join (step_ways w s) (code_ways w c) (step_records at s r) (code_records (at + step_line_count s) c r) (step_same at s w r e) (code_same (at + step_line_count s) c w r e)

  codes_same : (at : ℕ) (cs : MidCodes) (w : FrameWay) (r : List StaticRecord) → way_of w ≡ past r → map way_of (codes_ways w cs) ≡ map past (codes_records at cs r)
  codes_same at no_code w r e = refl
  codes_same at (code_and c codes) w r e =
      join (code_ways w c) (w ∷ codes_ways w codes) (code_records at c r) (r ∷ codes_records (at + line_count c + 1) codes r) (code_same at c w r e)
      (more w r (codes_ways w codes) (codes_records (at + line_count c + 1) codes r) e (codes_same (at + line_count c + 1) codes w r e))

pub law_of_tree_ways : LawOfTreeWays
law_of_tree_ways c = code_same 0 c (FromStack 0) [] refl
