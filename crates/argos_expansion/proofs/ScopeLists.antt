-- Lists of names with their numbers.
use Rattle.std.proofs.Common.{suc, ◌≡◌, ℕ, ◌+◌, ◌-◌, ◌<◌, ◌≤◌, List, [], ◌∷◌, ◌++◌, length, get_or, drop, ap, ◌∙◌, arith}
use Rattle.std.specs.List.{range_with_len}
use Rattle.std.proofs.lemmas.Grind.{common_steps}
use Rattle.std.proofs.lemmas.List.{at_drop_more, at_drop_all}
use Rattle.argos_grammar.specs.Forms.{Mark}
use Rattle.argos_grammar.specs.Views.{mark_of, marks_of}
use Rattle.argos_grammar.specs.declared.trees.Spot.{Spot}
use Rattle.argos_expansion.specs.Expansion.{Numbers, numbered, paired}

-- names with the numbers from one on, and others behind them
pub numbered-two : (xs ys : List Mark) (n : ℕ) (es : Numbers) → numbered (xs ++ ys) n es ≡ numbered ys (n + length xs) (numbered xs n es)
numbered-two [] ys n es = let e : n ≡ n + 0 = omega arith in ap (λ k. numbered ys k es) e
numbered-two (x ∷ xs) ys n es =
    let e : n + 1 + length xs ≡ n + length (x ∷ xs) = omega arith in
    numbered-two xs ys (n + 1) ((x.name, n) ∷ es) ∙ ap (λ k. numbered ys k (numbered xs (n + 1) ((x.name, n) ∷ es))) e

-- names that come into scope one by one
pub numbered_on : (ss : List Spot) (n i : ℕ) (env : Numbers) (d : Spot) → i < length ss → numbered (marks_of (drop i ss)) (n + i) env ≡ numbered (marks_of (drop (i + 1) ss)) (n + (i + 1)) (((get_or ss i d).name, n + i) ∷ env)
numbered_on ss n i env d h =
    let a : n + i + 1 ≡ n + (i + 1) = omega arith in
    at_drop_more (λ ss. numbered (marks_of ss) (n + i) env) ss i d h ∙ ap (λ k. numbered (marks_of (drop (i + 1) ss)) k (((get_or ss i d).name, n + i) ∷ env)) a

pub numbered_past : (ss : List Spot) (n i : ℕ) (env : Numbers) → length ss ≤ i → numbered (marks_of (drop i ss)) (n + i) env ≡ env
numbered_past ss n i env = at_drop_all (λ ss. numbered (marks_of ss) (n + i) env) ss i

pub numbered_begin : (ss : List Spot) (n : ℕ) (env : Numbers) → numbered (marks_of ss) (n + 0) env ≡ numbered (marks_of ss) n env
numbered_begin ss n env = let e : n + 0 ≡ n = omega arith in ap (λ k. numbered (marks_of ss) k env) e

pub ranged_on : (ss : List Spot) (n i : ℕ) (env : Numbers) (d : Spot) → i < length ss
    → paired (marks_of (drop i ss)) (range_with_len (n + i) (length ss - i)) ++ env ≡ ((get_or ss i d).name, n + i) ∷ (paired (marks_of (drop (i + 1) ss)) (range_with_len (n + (i + 1)) (length ss - (i + 1))) ++ env)
ranged_on ss n i env d h =
    let a : n + i + 1 ≡ n + (i + 1) = omega arith in
    let b : length ss - i ≡ suc (length ss - (i + 1)) = omega arith in
    at_drop_more (λ ts. paired (marks_of ts) (range_with_len (n + i) (length ss - i)) ++ env) ss i d h
    ∙ ap (λ k. paired (mark_of (get_or ss i d) ∷ marks_of (drop (i + 1) ss)) (range_with_len (n + i) k) ++ env) b
    ∙ ap (λ k. ((get_or ss i d).name, n + i) ∷ (paired (marks_of (drop (i + 1) ss)) (range_with_len k (length ss - (i + 1))) ++ env)) a

pub ranged_end : (ss : List Spot) (n i : ℕ) (env : Numbers) → length ss ≤ i → paired (marks_of (drop i ss)) (range_with_len (n + i) (length ss - i)) ++ env ≡ env
ranged_end ss n i env h = at_drop_all (λ ts. paired (marks_of ts) (range_with_len (n + i) (length ss - i)) ++ env) ss i h

pub ranged_begin : (ss : List Spot) (n i : ℕ) (env : Numbers) → i ≤ 0 → paired (marks_of (drop i ss)) (range_with_len (n + i) (length ss - i)) ++ env ≡ paired (marks_of ss) (range_with_len n (length ss)) ++ env
ranged_begin ss n i env h =
    let z : i ≡ 0 = omega arith in
    let e : n + 0 ≡ n = omega arith in
    let l : length ss - 0 ≡ length ss = omega arith in
    ap (λ k. paired (marks_of (drop k ss)) (range_with_len (n + k) (length ss - k)) ++ env) z
    ∙ ap (λ k. paired (marks_of ss) (range_with_len k (length ss - 0)) ++ env) e
    ∙ ap (λ k. paired (marks_of ss) (range_with_len n k) ++ env) l

pub ruleset scope_lists = (common_steps, numbered_on, numbered_past, numbered_begin, ranged_on, ranged_end, ranged_begin)
