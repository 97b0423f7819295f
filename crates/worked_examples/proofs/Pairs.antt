-- The pairs of the worked examples, by the tables of their games.
use Rattle.std.proofs.Common.{◌≡◌, ℕ, ◌<◌, [], ◌∷◌, Ok, refl, lit<, lit≤}
use Rattle.parity.specs.Below.{some_below, all_below}
use Rattle.parity.specs.Game.{favoured}
use Rattle.parity.specs.declared.player.Player.TheVariants.{Zero, One}
use Rattle.parity.proofs.Check.{fits, fits_all, sound_all}
use Rattle.parity.proofs.Tabled.{Tabled, tabled}
use Rattle.draft.specs.Automaton.{is_ruled, is_complete}
use Rattle.inclusion.specs.PairGame.{pair_game, pair_winner}
use Rattle.inclusion.specs.Safe.{Contained as Contained-in}
use Rattle.inclusion.specs.Stratified.{low_to, state_low, is_stratified}
use Rattle.inclusion.proofs.Contains.{contained}
use Rattle.contain.specs.Asking.{asked}
use Rattle.contain.specs.declared.fault.Containment.TheVariants.{NotShown, Contained}
use Rattle.contain.proofs.Asked.{answered, comparable}
use Rattle.colvaje_host.specs.HostAnswer.{host_answer}
use Rattle.worked_examples.specs.Drafts.{mailbox_bytes, mailbox, posted_bytes, posted}
use Rattle.worked_examples.specs.Answered.{Compares}
use Rattle.worked_examples.proofs.Comparing.{compares_by, host_by}
use Rattle.worked_examples.proofs.Drafts.{mailbox_made, posted_made, mailbox_formed, posted_formed}

forth_tabled : (v : ℕ) → v < 12 →
    Tabled (pair_game mailbox posted) (4 ∷ 4 ∷ 4 ∷ 4 ∷ 4 ∷ 2 ∷ 4 ∷ 4 ∷ 4 ∷ 4 ∷ 4 ∷ 2 ∷ []) (2 ∷ 0 ∷ 4 ∷ 0 ∷ 0 ∷ 0 ∷ 3 ∷ 1 ∷ 5 ∷ 1 ∷ 1 ∷ 1 ∷ []) v
unfolding sound_all fits_all fits some_below all_below favoured
forth_tabled = tabled (pair_game mailbox posted) _ _ refl refl

back_tabled : (v : ℕ) → v < 12 →
    Tabled (pair_game posted mailbox) (3 ∷ 3 ∷ 3 ∷ 3 ∷ 3 ∷ 3 ∷ 3 ∷ 3 ∷ 3 ∷ 3 ∷ 3 ∷ 3 ∷ []) (4 ∷ 2 ∷ 2 ∷ 2 ∷ 2 ∷ 0 ∷ 5 ∷ 3 ∷ 3 ∷ 3 ∷ 3 ∷ 1 ∷ []) v
unfolding sound_all fits_all fits some_below all_below favoured
back_tabled = tabled (pair_game posted mailbox) _ _ refl refl

-- every question is answered yes
forth_asked : asked mailbox 0 posted 0 ≡ Ok tt
unfolding is_complete is_ruled is_stratified state_low low_to all_below
forth_asked = refl

back_asked : asked posted 0 mailbox 0 ≡ Ok tt
unfolding is_complete is_ruled is_stratified state_low low_to all_below
back_asked = refl

forth_won : pair_winner mailbox posted 0 0 ≡ Zero
unfolding favoured
forth_won = (forth_tabled 0 (lit< tt)).winner_at

back_won : pair_winner posted mailbox 0 0 ≡ One
unfolding favoured
back_won = (back_tabled 0 (lit< tt)).winner_at

pub mailbox_in_posted : Compares mailbox 0 posted 0 Contained
mailbox_in_posted = compares_by mailbox 0 posted 0 Zero forth_asked forth_won

pub posted_in_mailbox : Compares posted 0 mailbox 0 NotShown
posted_in_mailbox = compares_by posted 0 mailbox 0 One back_asked back_won

pub mailbox_contained : Contained-in mailbox posted 0 0
mailbox_contained =
    let alike = comparable mailbox 0 posted 0 mailbox_formed posted_formed (answered mailbox 0 posted 0 forth_asked) in
    contained mailbox posted mailbox_formed posted_formed alike 0 0 (lit< tt) (lit< tt) forth_won

pub host_answers : (host_answer 2 mailbox_bytes posted_bytes 0 0 ≡ 1) × (host_answer 2 posted_bytes mailbox_bytes 0 0 ≡ 0)
host_answers = (
  host_by 2 mailbox_bytes posted_bytes mailbox posted 0 0 Contained mailbox_made posted_made (lit≤ tt) mailbox_in_posted,
  host_by 2 posted_bytes mailbox_bytes posted mailbox 0 0 NotShown posted_made mailbox_made (lit≤ tt) posted_in_mailbox,
)
