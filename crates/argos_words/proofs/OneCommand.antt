-- Words are one command at most.
use Rattle.std.proofs.Common.{◌≡◌, ℕ, List, [], ◌∷◌, refl, sym, ap, subst, ◌∙◌, codes, arith}
use Rattle.argos_base.specs.Spelling.{number_of}
use Rattle.std.specs.Prelude.{if◌then◌else◌, bytes_eq}
use Rattle.argos_words.specs.Words.{Words, Given, Command, check, compile, weave, simulate, equiv, sample, Target, Equations, CText, IsCommand, HasParts, IsBudget, IsOneTarget, command_word, Splits}
use Rattle.argos_words.proofs.OneSplit.{one_split}

-- one number of nodes, one target
one_budget : (vs : Words) (n m : ℕ) → IsBudget vs n → IsBudget vs m → n ≡ m
one_budget [] n m a b = a ∙ sym b
one_budget (v ∷ []) n m a b = sym a.number ∙ b.number
one_budget (v ∷ v' ∷ vs) n m a b = absurd a

one_target : (vs : Words) (s t : Target) → IsOneTarget vs s → IsOneTarget vs t → s ≡ t
one_target [] s t a b = absurd a
one_target (v ∷ []) Equations Equations a b = refl
one_target (v ∷ []) Equations CText a b = let e : codes "eq" ≡ codes "c" = sym a ∙ b in cc
one_target (v ∷ []) CText Equations a b = let e : codes "eq" ≡ codes "c" = sym b ∙ a in cc
one_target (v ∷ []) CText CText a b = refl
one_target (v ∷ v' ∷ vs) s t a b = absurd a

-- which of the six commands
abbrev kind_of : Command → ℕ
kind_of (check f n) = 0
kind_of (compile f t n) = 1
kind_of (weave f a t n) = 2
kind_of (simulate f a n) = 3
kind_of (equiv l r c n) = 4
kind_of (sample n) = 5

abbrev kind_of_word : List ℕ → ℕ
kind_of_word w =
    if bytes_eq w (codes "check") then 0
    else if bytes_eq w (codes "compile") then 1
    else if bytes_eq w (codes "weave") then 2
    else if bytes_eq w (codes "simulate") then 3
    else if bytes_eq w (codes "equiv") then 4
    else 5

the_kind : (c : Command) → kind_of_word (command_word c) ≡ kind_of c
the_kind (check f n) = refl
the_kind (compile f t n) = refl
the_kind (weave f a t n) = refl
the_kind (simulate f a n) = refl
the_kind (equiv l r c n) = refl
the_kind (sample n) = refl

-- parts are of one command
one_of_a_kind : (c d : Command) (ps : Words) (gs : List Given) → kind_of c ≡ kind_of d → HasParts c ps gs → HasParts d ps gs → c ≡ d
one_of_a_kind (check f n) (check f' n') ps gs k a b =
    let file : f ≡ f' = cc (a.0, b.0) in
    let nodes = one_budget _ n n' a.1.1 b.1.1 in
    cc
one_of_a_kind (compile f t n) (compile f' t' n') ps gs k a b =
    let file : f ≡ f' = cc (a.0, b.0) in
    let to = one_target _ t t' a.1.1 b.1.1 in
    let nodes = one_budget _ n n' a.1.2 b.1.2 in
    cc
one_of_a_kind (weave f xs t n) (weave f' ys t' n') ps gs k a b =
    let file : f ≡ f' = cc (a.0, b.0) in
    let aspects : xs ≡ ys = cc (a.0, b.0) in
    let to = one_target _ t t' a.3.1 b.3.1 in
    let nodes = one_budget _ n n' a.3.2 b.3.2 in
    cc
one_of_a_kind (simulate f xs n) (simulate f' ys n') ps gs k a b =
    let file : f ≡ f' = cc (a.0, b.0) in
    let aspects : xs ≡ ys = cc (a.0, b.0) in
    let nodes = one_budget _ n n' a.2.1 b.2.1 in
    cc
one_of_a_kind (equiv l r c n) (equiv l' r' c' n') ps gs k a b =
    let left : l ≡ l' = cc (a.0, b.0) in
    let right : r ≡ r' = cc (a.0, b.0) in
    let cert : c ≡ c' = cc (a.0, b.0) in
    let nodes = one_budget _ n n' a.1.1 b.1.1 in
    cc
one_of_a_kind (sample n) (sample n') ps gs k a b =
    let value : a.0 ≡ b.0 = cc (a.1, b.1) in
    ap sample (sym a.2.number ∙ ap number_of value ∙ b.2.number)
one_of_a_kind c d ps gs k a b = absurd (omega arith)

pub one_command : (words : Words) (c d : Command) → IsCommand words c → IsCommand words d → c ≡ d
one_command words c d a b =
    let head : command_word c ≡ command_word d = cc (a.head, b.head) in
    let after : a.after ≡ b.after = cc (a.head, b.head) in
    let one = one_split a.split (subst (λ ws. Splits ws b.plains b.options) (sym after) b.split) in
    let parts : HasParts d a.plains a.options = subst (λ ps. HasParts d ps a.options) (sym one.0) (subst (λ gs. HasParts d b.plains gs) (sym one.1) b.parts) in
    one_of_a_kind c d a.plains a.options (sym (the_kind c) ∙ ap kind_of_word head ∙ the_kind d) a.parts parts
