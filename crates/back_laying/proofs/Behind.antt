-- Blocks of words behind one another, with their addresses.
use Rattle.std.proofs.Common.{◌≡◌, ℕ, ◌+◌, ◌*◌, ◌^◌, ◌≤◌, inl, suc, List, [], ◌∷◌, ◌++◌, length, drop, Some, refl, sym, ap, subst, ◌∙◌, append_assoc, append-nil, length-append, arith}
use Rattle.std.specs.Prelude.{slice_get}
use Rattle.std.proofs.lemmas.List.{drop_all}
use Rattle.base.specs.model.DataRest.{rest_at}
use Rattle.back_words.specs.Blocks.{blocks, block_addresses}
use Rattle.back_laying.specs.TooLarge.{DoNotFit}
use Rattle.back_laying.proofs.Large.{part_too_large}

module _ {X : Type 0} (of : X → ℕ → List ℕ) where
  -- what is laid, and what is to come
  pub record BlocksSoFar (all rest : List X) (start : ℕ) (before addresses laid : List ℕ) : Type 0 where
    pub addresses_too : addresses ++ block_addresses of rest (start + 4 * length laid) ≡ before ++ block_addresses of all start
    pub words_too : laid ++ blocks of rest (start + 4 * length laid) ≡ blocks of all start

  pub no_block : (all : List X) (start : ℕ) (before : List ℕ) → BlocksSoFar all all start before before []
  no_block all start before =
      let same : start + 4 * 0 ≡ start = omega arith in record {
        addresses_too = ap (λ n. before ++ block_addresses of all n) same;
        words_too = ap (blocks of all) same;
      }

  pub block_more : (all xs : List X) (i : ℕ) (x : X) (start address : ℕ) (before addresses laid next_addresses next_laid : List ℕ) → slice_get xs i ≡ Some x
      → address ≡ start + 4 * length laid → next_addresses ≡ addresses ++ address ∷ [] → next_laid ≡ laid ++ of x address
      → BlocksSoFar all (drop i xs) start before addresses laid → BlocksSoFar all (drop (i + 1) xs) start before next_addresses next_laid
  block_more all xs i x start address before addresses laid next_addresses next_laid here at a b h = record {
    addresses_too =
        ap (λ n. next_addresses ++ block_addresses of rest n) behind
        ∙ ap (λ l. l ++ block_addresses of rest (address + 4 * length (of x address))) a
        ∙ append_assoc addresses (address ∷ []) (block_addresses of rest (address + 4 * length (of x address)))
        ∙ ap (λ l. addresses ++ block_addresses of l address) (sym (rest_at xs i x here))
        ∙ ap (λ n. addresses ++ block_addresses of (drop i xs) n) at ∙ h.addresses_too;
    words_too =
        ap (λ n. next_laid ++ blocks of rest n) behind
        ∙ ap (λ l. l ++ blocks of rest (address + 4 * length (of x address))) b
        ∙ append_assoc laid (of x address) (blocks of rest (address + 4 * length (of x address)))
        ∙ ap (λ l. laid ++ blocks of l address) (sym (rest_at xs i x here))
        ∙ ap (λ n. laid ++ blocks of (drop i xs) n) at ∙ h.words_too;
  }
    where
      rest : List X
      rest = drop (i + 1) xs

      behind : start + 4 * length next_laid ≡ address + 4 * length (of x address)
      behind = omega (arith, ap length b, length-append laid (of x address), at)

  pub blocks_all : (all xs : List X) (i start : ℕ) (before addresses laid after : List ℕ) → length xs ≤ i → BlocksSoFar all (drop i xs) start before addresses laid
      → after ≡ addresses ++ laid → after ≡ before ++ (block_addresses of all start ++ blocks of all start)
  blocks_all all xs i start before addresses laid after past h joined =
      let none : drop i xs ≡ [] = drop_all i xs past in
      let first : addresses ≡ before ++ block_addresses of all start =
      sym (append-nil addresses) ∙ ap (λ l. addresses ++ block_addresses of l (start + 4 * length laid)) (sym none) ∙ h.addresses_too in
      let second : laid ≡ blocks of all start = sym (append-nil laid) ∙ ap (λ l. laid ++ blocks of l (start + 4 * length laid)) (sym none) ∙ h.words_too in
      joined ∙ ap (λ l. l ++ laid) first ∙ ap (λ l. (before ++ block_addresses of all start) ++ l) second
      ∙ append_assoc before (block_addresses of all start) (blocks of all start)

  -- ---- what does not fit

  addresses_many : (xs : List X) (start : ℕ) → length (block_addresses of xs start) ≡ length xs
  addresses_many [] start = refl
  addresses_many (x ∷ xs) start = ap suc (addresses_many xs (start + 4 * length (of x start)))

  pub addresses_too_large : (all : List X) (address start : ℕ) → 2 ^ 32 ≤ address + 4 * length all
      → DoNotFit address (block_addresses of all start ++ blocks of all start)
  addresses_too_large all address start h =
      let end : 2 ^ 32 ≤ address + 4 * length (block_addresses of all start ++ blocks of all start) =
      omega (arith, h, length-append (block_addresses of all start) (blocks of all start), addresses_many all start) in inl end

  pub laid_too_large : (all rest : List X) (address start : ℕ) (before addresses laid : List ℕ) → start ≡ address + 4 * length all
      → BlocksSoFar all rest start before addresses laid → 2 ^ 32 ≤ start + 4 * length laid
      → DoNotFit address (block_addresses of all start ++ blocks of all start)
  laid_too_large all rest address start before addresses laid at h far =
      let many : length laid + length (blocks of rest (start + 4 * length laid)) ≡ length (blocks of all start) =
      sym (length-append laid (blocks of rest (start + 4 * length laid))) ∙ ap length h.words_too in
      let end : 2 ^ 32 ≤ address + 4 * length (block_addresses of all start ++ blocks of all start) =
      omega (arith, far, at, many, length-append (block_addresses of all start) (blocks of all start), addresses_many all start) in inl end

  pub block_too_large : (all xs : List X) (i : ℕ) (x : X) (address start here : ℕ) (before addresses laid : List ℕ) → slice_get xs i ≡ Some x
      → start ≡ address + 4 * length all → here ≡ start + 4 * length laid → DoNotFit here (of x here)
      → BlocksSoFar all (drop i xs) start before addresses laid → DoNotFit address (block_addresses of all start ++ blocks of all start)
  block_too_large all xs i x address start here before addresses laid there at place large h =
      let rest = blocks of (drop (i + 1) xs) (here + 4 * length (of x here)) in
      let all_addresses = block_addresses of all start in
      let whole : laid ++ (of x here ++ rest) ≡ blocks of all start =
      ap (λ l. laid ++ blocks of l here) (sym (rest_at xs i x there)) ∙ ap (λ n. laid ++ blocks of (drop i xs) n) place ∙ h.words_too in
      let joined : (all_addresses ++ laid) ++ (of x here ++ rest) ≡ all_addresses ++ blocks of all start =
      append_assoc all_addresses laid (of x here ++ rest) ∙ ap (λ l. all_addresses ++ l) whole in
      subst (DoNotFit address) joined
      (part_too_large address here (all_addresses ++ laid) (of x here) rest
      (omega (arith, place, at, length-append all_addresses laid, addresses_many all start)) large)
