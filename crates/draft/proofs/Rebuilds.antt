-- The calls of an automaton, made on an empty one, give it back: first its states, then its nodes, then its rules.
use Rattle.std.proofs.Common.{◌≡◌, ℕ, suc, ◌+◌, ◌<◌, ◌≤◌, List, [], ◌∷◌, ◌++◌, map, length, get_or, set, replicate, Some, None, Ok, Option, sym, refl, ap, ◌∙◌, arith}
use Rattle.std.proofs.lemmas.List.{append-nil, append_assoc, length-append, length_push, length-map, get_or_at, set_at}
use Rattle.draft.specs.declared.parts.Node.{Node}
use Rattle.draft.specs.declared.parts.Node.TheVariants.{Leaf}
use Rattle.draft.specs.declared.parts.State.{State}
use Rattle.draft.specs.declared.records.Call.TheVariants.{Rule}
use Rattle.draft.specs.Automaton.{Automaton, empty, blank}
use Rattle.draft.specs.Calls.{fresh, ruled}
use Rattle.draft.specs.WellFormed.{WellFormed, Fits}
use Rattle.draft.specs.Written.{state_call, node_call, rule_calls, all_rule_calls, calls_of}
use Rattle.draft.proofs.Children.{node_fits}
use Rattle.draft.proofs.Heeds.{heeds_state, heeds_node, heeds_rule}
use Rattle.draft.proofs.Runs.{Heeds, Runs, runs_append}

abbrev of : ℕ → List State → List Node → Automaton
of n ss ns = record { letters = n; states = ss; nodes = ns }

-- the state before it has rules
abbrev bare : State → State
bare s = fresh s.priority

states_run : (n : ℕ) (ss us : List State) → length us + length ss ≤ 32 → ((q : ℕ) → q < length ss → (get_or ss q blank).priority ≤ 999)
    → Runs (of n us []) (map state_call ss) (of n (us ++ map bare ss) [])
states_run n [] us few low = ap (λ (l : List State). of n l []) (sym (append-nil us))
states_run n (s ∷ ss) us few low =
    let e = length_push us (bare s) in (
      of n (us ++ bare s ∷ []) [],
      heeds_state (of n us []) s.priority (low 0 (omega arith)) (omega arith),
      simp append_assoc at (states_run n ss (us ++ bare s ∷ []) (omega arith) (λ q q<. low (suc q) (omega arith))),
    )

nodes_run : (n : ℕ) (ss : List State) (ns us : List Node) → length us + length ns ≤ 128
    → ((k x : ℕ) → k < length ns → x ≡ length us + k → Fits (length ss) x (get_or ns k (Leaf 0)))
    → Runs (of n ss us) (map node_call ns) (of n ss (us ++ ns))
nodes_run n ss [] us few fits = ap (λ (l : List Node). of n ss l) (sym (append-nil us))
nodes_run n ss (t ∷ ns) us few fits =
    let e = length_push us t in (
      of n ss (us ++ t ∷ []),
      heeds_node (of n ss us) t (omega arith) (fits 0 (length us) (omega arith) (omega arith)),
      simp append_assoc at (nodes_run n ss ns (us ++ t ∷ []) (omega arith) (λ k x k< place. fits (suc k) x (omega arith) (omega arith))),
    )

-- the rules of one state, from a letter on; vs are those that stand already
module _ (n : ℕ) (ns : List Node) (p q : ℕ) (us rest : List State) (here : length us ≡ q) where
  abbrev row : List (Option ℕ) → State
  row l = record { priority = p; rules = l }

  abbrev with_rules : List (Option ℕ) → Automaton
  with_rules l = of n (us ++ row l ∷ rest) ns

  heeds : (vs more : List (Option ℕ)) (letter x : ℕ) → length vs ≡ letter → letter < n → x < length ns
      → Heeds (with_rules (vs ++ None ∷ more)) (Rule q letter x) (with_rules (vs ++ Some x ∷ more))
  heeds vs more letter x e l< x< =
      let long = length-append us (row (vs ++ None ∷ more) ∷ rest) in
      let new : ruled (get_or (us ++ row (vs ++ None ∷ more) ∷ rest) q blank) letter x ≡ row (vs ++ Some x ∷ more) =
      ap (λ (s : State). ruled s letter x) (get_or_at us (row (vs ++ None ∷ more)) rest blank q here) ∙ ap row (set_at vs None more (Some x) letter e) in
      heeds_rule (with_rules (vs ++ None ∷ more)) q letter x (omega arith) l< x<
      ∙ ap (λ (l : List State). (Ok tt, of n l ns))
      (ap (set (us ++ row (vs ++ None ∷ more) ∷ rest) q) new ∙ set_at us (row (vs ++ None ∷ more)) rest (row (vs ++ Some x ∷ more)) q here)

  row_run : (rs vs : List (Option ℕ)) (letter : ℕ) → length vs ≡ letter → ((k x : ℕ) → get_or rs k None ≡ Some x → (letter + k < n) × (x < length ns))
      → Runs (with_rules (vs ++ replicate (length rs) None)) (rule_calls q letter rs) (with_rules (vs ++ rs))
  row_run [] vs letter e known = refl
  row_run (None ∷ rs) vs letter e known =
      let f = length_push vs None in
      simp append_assoc at (row_run rs (vs ++ None ∷ []) (letter + 1) (omega arith) (λ k x h. (let g = known (suc k) x h in (omega arith, g.1))))
  row_run (Some y ∷ rs) vs letter e known =
      let f = length_push vs (Some y) in
      let g = known 0 y refl in (
        with_rules (vs ++ Some y ∷ replicate (length rs) None),
        heeds vs (replicate (length rs) None) letter y e (omega arith) g.1,
        simp append_assoc at (row_run rs (vs ++ Some y ∷ []) (letter + 1) (omega arith) (λ k x h. (let g = known (suc k) x h in (omega arith, g.1)))),
      )

rules_run : (n : ℕ) (ns : List Node) (ss us : List State) (q : ℕ) → length us ≡ q
    → ((k : ℕ) → k < length ss → length (get_or ss k blank).rules ≡ 16)
    → ((k letter x : ℕ) → get_or (get_or ss k blank).rules letter None ≡ Some x → (letter < n) × (x < length ns))
    → Runs (of n (us ++ map bare ss) ns) (all_rule_calls q ss) (of n (us ++ ss) ns)
rules_run n ns [] us q e full known = refl
rules_run n ns (s ∷ ss) us q e full known =
    let long = length_push us s in
    let row : Runs (of n (us ++ bare s ∷ map bare ss) ns) (rule_calls q 0 s.rules) (of n (us ++ s ∷ map bare ss) ns) =
    rw (full 0 (omega arith)) at (row_run n ns s.priority q us (map bare ss) e s.rules [] 0 refl (λ k x h. (let g = known 0 k x h in (omega arith, g.1)))) in
    runs_append (rule_calls q 0 s.rules) (all_rule_calls (q + 1) ss) _ _ _ row
    (simp append_assoc at (rules_run n ns ss (us ++ s ∷ []) (q + 1) (omega arith) (λ k k<. full (suc k) (omega arith)) (λ k letter x h. known (suc k) letter x h)))

pub rebuilds : (b : Automaton) → WellFormed b → Runs (empty b.letters) (calls_of b) b
rebuilds b w =
    let same = length-map b.states bare in
    runs_append (map state_call b.states) (map node_call b.nodes ++ all_rule_calls 0 b.states) (empty b.letters) (of b.letters (map bare b.states) []) b
    (states_run b.letters b.states [] (omega (arith, w.few_states)) w.low)
    (runs_append (map node_call b.nodes) (all_rule_calls 0 b.states) (of b.letters (map bare b.states) []) (of b.letters (map bare b.states) b.nodes) b
    (nodes_run b.letters (map bare b.states) b.nodes [] (omega (arith, w.few_nodes))
    (λ k x k< place. (let here : x ≡ k = omega arith in rw (same, here) (node_fits b w k k<))))
    (rules_run b.letters b.nodes b.states [] 0 refl w.full (λ k letter x h. (w.lettered k letter x h, w.named k letter x h))))
