-- Processes and states, one after another.
use Rattle.std.proofs.Common.{◌≡◌, ℕ, ◌+◌, ◌<◌, ◌≤◌, List, [], ◌∷◌, ◌++◌, Bool, true, false, ◌||◌, not, Option, Some, None, length, get_or, drop, refl, ap, sym, ◌∙◌, add-one, append_assoc}
use Rattle.std.proofs.Math.Path.{fun_ext}
use Rattle.std.specs.Prelude.{flat_map, bytes_eq, if◌then◌else◌}
use Rattle.std.proofs.lemmas.List.{at_drop_more, at_drop_all, drop-drop, length-map}
use Rattle.std.proofs.lemmas.List.Folds.{list_any-append}
use Rattle.std.proofs.lemmas.Slice.Eq.{bytes_eq-Decides}
use Rattle.indexmap.specs.IndexSet.{insert_key, insert_all}
use Rattle.argos_base.specs.Spelling.{is_one_of}
use Rattle.argos_grammar.specs.Forms.{Mark, Head, TransForm, TimedForm, StateForms, no_states, state}
use Rattle.argos_grammar.specs.Views.{marks_of, process_of, block_of, state_of, states_of}
use Rattle.argos_grammar.specs.declared.trees.Spot.{Spot}
use Rattle.argos_grammar.specs.declared.trees.ProcessTree.{ProcessTree}
use Rattle.argos_grammar.specs.declared.trees.StateTree.{StateTree}
use Rattle.argos_names.specs.Scope.{Scope, Sort, Breach, Duplicate, Unknown, Around, breach_unless, reading, emitting, atoms, with_names, in_trans, in_timed, in_head, in_body, in_process, in_block, in_states, state_names}
use Rattle.argos_names.specs.inner.Least.{least_after}
use Rattle.argos_names.proofs.Breaches.{leasts, least_after-append, after_each, after_each-drop}

-- the names of states that were put into a set are the same

last_or_first : (a b : Bool) → (a || (b || false)) ≡ (b || a)
last_or_first true true = refl
last_or_first true false = refl
last_or_first false true = refl
last_or_first false false = refl

kept_or : (b r : Bool) → (b ≡ true → r ≡ true) → r ≡ (b || r)
kept_or true r h = h refl
kept_or false r h = refl

put_in : (there : Bool) (keys : List (List ℕ)) (n m : List ℕ) → is_one_of keys n ≡ there → is_one_of (if there then keys else keys ++ n ∷ []) m ≡ (bytes_eq m n || is_one_of keys m)
put_in true keys n m h = kept_or (bytes_eq m n) (is_one_of keys m) (λ t. ap (is_one_of keys) ((bytes_eq-Decides m n).0 t) ∙ h)
put_in false keys n m h = list_any-append (bytes_eq m) keys (n ∷ []) ∙ last_or_first (is_one_of keys m) (bytes_eq m n)

is_one_of-insert_key : (keys : List (List ℕ)) (n m : List ℕ) → is_one_of (insert_key bytes_eq keys n) m ≡ (bytes_eq m n || is_one_of keys m)
is_one_of-insert_key keys n m = put_in (is_one_of keys n) keys n m refl

or_swap : (a b c : Bool) → (a || (b || c)) ≡ (b || (a || c))
or_swap true true c = refl
or_swap true false c = refl
or_swap false b c = refl

or_none : (b : Bool) → (b || false) ≡ b
or_none true = refl
or_none false = refl

is_one_of-insert_from : (keys names : List (List ℕ)) (m : List ℕ) → is_one_of (insert_all bytes_eq keys names) m ≡ (is_one_of names m || is_one_of keys m)
is_one_of-insert_from keys [] m = refl
is_one_of-insert_from keys (n ∷ names) m =
    is_one_of-insert_from (insert_key bytes_eq keys n) names m
    ∙ ap (λ b. is_one_of names m || b) (is_one_of-insert_key keys n m)
    ∙ moved (is_one_of names m) (bytes_eq m n) (is_one_of keys m)
  where
    moved : (a b c : Bool) → (a || (b || c)) ≡ ((b || a) || c)
    moved true true c = refl
    moved true false c = refl
    moved false true c = refl
    moved false false c = refl

pub is_one_of-insert_all : (names : List (List ℕ)) (m : List ℕ) → is_one_of (insert_all bytes_eq [] names) m ≡ is_one_of names m
is_one_of-insert_all names m = is_one_of-insert_from [] names m ∙ or_none (is_one_of names m)

-- breaches among names of states of which the same are found
same_trans : (s : Scope) (xs ys : List (List ℕ)) (ts : List TransForm) → is_one_of xs ≡ is_one_of ys → flat_map (in_trans s xs) ts ≡ flat_map (in_trans s ys) ts
same_trans s xs ys ts e = ap (λ (found : List ℕ → Bool). flat_map (λ t. flat_map (reading s) (atoms t.guard) ++ flat_map (emitting s) t.outs ++ breach_unless (found t.target.name) Unknown t.target) ts) e

same_timed : (s : Scope) (xs ys : List (List ℕ)) (t : Option TimedForm) → is_one_of xs ≡ is_one_of ys → in_timed s xs t ≡ in_timed s ys t
same_timed s xs ys None e = refl
same_timed s xs ys (Some t) e = ap (λ (found : List ℕ → Bool). reading s t.signal ++ flat_map (emitting s) t.outs ++ breach_unless (found t.target.name) Unknown t.target) e

same_head : (s : Scope) (xs ys : List (List ℕ)) (h : Head) → is_one_of xs ≡ is_one_of ys → in_head s xs h ≡ in_head s ys h
same_head s xs ys h e = ap (λ bs. bs ++ in_timed s xs h.timed) (same_trans s xs ys h.trans e) ∙ ap (λ bs. flat_map (in_trans s ys) h.trans ++ bs) (same_timed s xs ys h.timed e)

same_names : (a : Around) (s : Scope) (xs ys seen : List (List ℕ)) (ss : StateForms) → is_one_of xs ≡ is_one_of ys → in_states a s xs seen ss ≡ in_states a s ys seen ss
same_names a s xs ys seen no_states e = refl
same_names a s xs ys seen (state h b ss) e =
    let first = breach_unless (not (is_one_of seen h.name.name)) Duplicate h.name in
    ap (λ bs. first ++ in_body a s b ++ bs ++ in_states a s xs (h.name.name ∷ seen) ss) (same_head s xs ys h e)
    ∙ ap (λ bs. first ++ in_body a s b ++ in_head s ys h ++ bs) (same_names a s xs ys (h.name.name ∷ seen) ss e)

same_seen : (a : Around) (s : Scope) (names xs ys : List (List ℕ)) (ss : StateForms) → is_one_of xs ≡ is_one_of ys → in_states a s names xs ss ≡ in_states a s names ys ss
same_seen a s names xs ys no_states e = refl
same_seen a s names xs ys (state h b ss) e =
    let n = h.name.name in
    ap (λ (found : List ℕ → Bool). breach_unless (not (found n)) Duplicate h.name ++ in_body a s b ++ in_head s names h ++ in_states a s names (n ∷ xs) ss) e
    ∙ ap (λ bs. breach_unless (not (is_one_of ys n)) Duplicate h.name ++ in_body a s b ++ in_head s names h ++ bs)
    (same_seen a s names (n ∷ xs) (n ∷ ys) ss (let more : (List ℕ → Bool) → List ℕ → Bool = λ found m. bytes_eq m n || found m in ap more e))

-- the states of an automaton, among a set of their names
pub states_among : (a : Around) (s : Scope) (ss : StateForms) → in_states a s (insert_all bytes_eq [] (state_names ss)) [] ss ≡ in_states a s (state_names ss) [] ss
states_among a s ss = same_names a s (insert_all bytes_eq [] (state_names ss)) (state_names ss) [] ss (fun_ext (is_one_of-insert_all (state_names ss)))

-- states, after those whose names were seen
unfoldable pub after_states : Around → Scope → List (List ℕ) → List (List ℕ) → Option Breach → List StateTree → Option Breach
after_states a s names seen o ss = least_after o (in_states a s names seen (states_of ss))

pub states_come : (a : Around) (s : Scope) (names seen : List (List ℕ)) (o : Option Breach) (ss : List StateTree) → least_after o (in_states a s names seen (states_of ss)) ≡ after_states a s names seen o ss
unfolding after_states
states_come a s names seen o ss = refl

pub states_past : (a : Around) (s : Scope) (names seen : List (List ℕ)) (o : Option Breach) (ss : List StateTree) (i : ℕ) → length ss ≤ i → after_states a s names seen o (drop i ss) ≡ o
unfolding after_states
states_past a s names seen o ss i h = at_drop_all (after_states a s names seen o) ss i h

abbrev pub state_each : Around → Scope → List (List ℕ) → StateTree → List Breach
state_each a s names x = in_body a s (state_of x).body ++ in_head s names (state_of x).head

one_state : (a : Around) (s : Scope) (names seen : List (List ℕ)) (o : Option Breach) (x : StateTree) (ss : List StateTree)
    → after_states a s names seen o (x ∷ ss) ≡ after_states a s names (insert_key bytes_eq seen (state_of x).head.name.name) (least_after (least_after o (breach_unless (not (is_one_of seen (state_of x).head.name.name)) Duplicate (state_of x).head.name)) (state_each a s names x)) ss
unfolding after_states
one_state a s names seen o x ss =
    let n = (state_of x).head.name.name in
    let first = breach_unless (not (is_one_of seen n)) Duplicate (state_of x).head.name in
    let body = in_body a s (state_of x).body in
    let head = in_head s names (state_of x).head in
    let rest = in_states a s names (n ∷ seen) (states_of ss) in
    least_after-append o (first ++ body ++ head) rest
    ∙ ap (λ bs. least_after (least_after o bs) rest) (append_assoc first body head)
    ∙ ap (λ p. least_after p rest) (least_after-append o first (body ++ head))
    ∙ ap (least_after (least_after (least_after o first) (body ++ head))) (same_seen a s names (n ∷ seen) (insert_key bytes_eq seen n) (states_of ss) (fun_ext (λ m. sym (is_one_of-insert_key seen n m))))

-- a set of the names of states
unfoldable pub names_from : List (List ℕ) → List StateTree → List (List ℕ)
names_from keys ss = insert_all bytes_eq keys (state_names (states_of ss))

pub names_come : (keys : List (List ℕ)) (ss : List StateTree) → insert_all bytes_eq keys (state_names (states_of ss)) ≡ names_from keys ss
unfolding names_from
names_come keys ss = refl

pub names_past : (keys : List (List ℕ)) (ss : List StateTree) (i : ℕ) → length ss ≤ i → names_from keys (drop i ss) ≡ keys
unfolding names_from
names_past keys ss i h = at_drop_all (names_from keys) ss i h

-- processes
abbrev pub process_each : Around → Scope → ProcessTree → List Breach
process_each a s p = in_process a s (process_of p)

block_each : (a : Around) (s : Scope) (ps : List ProcessTree) → in_block a s (block_of ps) ≡ flat_map (process_each a s) ps
block_each a s [] = refl
block_each a s (p ∷ ps) = ap (λ bs. process_each a s p ++ bs) (block_each a s ps)

pub block_comes : (a : Around) (s : Scope) (o : Option Breach) (ps : List ProcessTree) → least_after o (in_block a s (block_of ps)) ≡ after_each (process_each a s) o ps
unfolding after_each
block_comes a s o ps = ap (least_after o) (block_each a s ps)

pub block_drop : (a : Around) (s : Scope) (o : Option Breach) (ps : List ProcessTree) (i : ℕ) (x : ProcessTree) → i < length ps → (get_or ps i x ≡ get_or ps i x) × (after_each (process_each a s) o (drop i ps) ≡ after_each (process_each a s) (least_after o (process_each a s (get_or ps i x))) (drop (i + 1) ps))
block_drop a s o ps i x h = (refl, after_each-drop (process_each a s) o ps i x h)

-- the names of a local leave the scope
pub names_leave : (sort : Sort) (ns : List Spot) (s : Scope) → drop (length ns) (with_names sort (marks_of ns) s) ≡ s
names_leave sort [] s = refl
names_leave sort (n ∷ ns) s =
    let s' : Scope = (n.name, sort) ∷ s in
    let all = with_names sort (marks_of ns) s' in
    ap (λ k. drop k all) (sym (add-one (length ns))) ∙ sym (drop-drop 1 (length ns) all) ∙ ap (drop 1) (names_leave sort ns s')

-- one more state whose name and parts were looked at
pub after_state : (a : Around) (s : Scope) (names seen keys : List (List ℕ)) (o p q all : Option Breach) (ss : List StateTree) (i : ℕ) (x : StateTree) (m : Mark) → i < length ss → get_or ss i x ≡ x → m ≡ (state_of x).head.name
    → after_states a s names seen o (drop i ss) ≡ all → keys ≡ insert_key bytes_eq seen m.name → p ≡ least_after o (breach_unless (not (is_one_of seen m.name)) Duplicate m) → q ≡ least_after p (state_each a s names x)
    → after_states a s names keys q (drop (i + 1) ss) ≡ all
after_state a s names seen keys o p q all ss i x m h e f before put first parts =
    let n = (state_of x).head.name in
    let named : keys ≡ insert_key bytes_eq seen n.name = put ∙ ap (λ k. insert_key bytes_eq seen k.name) f in
    let found : p ≡ least_after o (breach_unless (not (is_one_of seen n.name)) Duplicate n) = first ∙ ap (λ k. least_after o (breach_unless (not (is_one_of seen k.name)) Duplicate k)) f in
    let next = at_drop_more (after_states a s names seen o) ss i x h ∙ ap (λ y. after_states a s names seen o (y ∷ drop (i + 1) ss)) e ∙ one_state a s names seen o x (drop (i + 1) ss) in
    ap (λ k. after_states a s names k q (drop (i + 1) ss)) named
    ∙ ap (λ r. after_states a s names (insert_key bytes_eq seen n.name) r (drop (i + 1) ss)) (parts ∙ ap (λ r. least_after r (state_each a s names x)) found)
    ∙ sym next ∙ before

pub after_name : (keys more all : List (List ℕ)) (ss : List StateTree) (i : ℕ) (x : StateTree) (m : Mark) → i < length ss → get_or ss i x ≡ x → m ≡ (state_of x).head.name → names_from keys (drop i ss) ≡ all → more ≡ insert_key bytes_eq keys m.name → names_from more (drop (i + 1) ss) ≡ all
unfolding names_from
after_name keys more all ss i x m h e f before put =
    ap (λ k. names_from k (drop (i + 1) ss)) (put ∙ ap (λ k. insert_key bytes_eq keys k.name) f)
    ∙ sym (at_drop_more (names_from keys) ss i x h ∙ ap (λ y. names_from keys (y ∷ drop (i + 1) ss)) e) ∙ before

pub ruleset processes = (leasts, is_one_of-insert_all, states_among, states_come, states_past, names_come, names_past, block_comes, block_drop, names_leave, length-map)
