use Rattle.std.proofs.Common.{ℕ, ◌&&◌, ltb, ap₂, ◌∙◌, rules, tests}
use Rattle.std.proofs.lemmas.Iterator.{YieldsList-from_slice}
use Rattle.std.proofs.lemmas.Iterator.Consumers.{YieldsList-from_chain}
use Rattle.std.proofs.lemmas.Iterator.Search.{all_from_yields_List}
use Rattle.std.proofs.lemmas.List.Folds.{list_all-append}
use Rattle.draft.proofs.AllBelow.{all_listed}
use Rattle.word.specs.Asking.{letters_known}
use Rattle.word.proofs.letters.Word.known.Goals as goal

pub returns : goal.returns
unfolding letters_known
returns c =
    let known = λ (x : ℕ). ltb x c.args.letters in
    let prefix = c.args.self.prefix.now in
    let period = c.args.self.period.now in
    all_from_yields_List known _ _ _ c.all.ensures.ran (YieldsList-from_chain (YieldsList-from_slice prefix cc) (YieldsList-from_slice period cc) (cc) (cc)) (λ x b q k. search (rules, tests))
    ∙ list_all-append known prefix period
    ∙ ap₂ ◌&&◌ (all_listed known prefix 0) (all_listed known period 0)
