-- The worked examples with their answers, as one fact about the definitions.
use Rattle.std.specs.Prelude.{◌≡◌, [], ◌∷◌, length, Ok}
use Rattle.parity.specs.Grading.{grade, distance, winner}
use Rattle.parity.specs.Move.{move}
use Rattle.parity.specs.Mirror.{mirror}
use Rattle.parity.specs.declared.player.Player.TheVariants.{Zero, One}
use Rattle.arena.specs.Stored.{asked}
use Rattle.draft.specs.Calls.{turned, turn_over}
use Rattle.word.specs.declared.verdict.Verdict.TheVariants.{Rejected, Accepted}
use Rattle.inclusion.specs.Safe.{Contained as Contained-in}
use Rattle.contain.specs.declared.fault.Containment.TheVariants.{NotShown, Contained}
use Rattle.colvaje_host.specs.HostAnswer.{host_answer}
use Rattle.worked_examples.specs.Arenas.{two_bytes, three_bytes, drawn_bytes, two, three, drawn}
use Rattle.worked_examples.specs.Drafts.{branching_bytes, branching, post, take, mailbox_bytes, mailbox, posted_bytes, posted}
use Rattle.worked_examples.specs.Answered.{Makes, Answers, Compares}

pub record Worked : Type 0 where
  -- the bytes are stored arenas
  pub two_asked : asked two_bytes ≡ Ok 2
  pub three_asked : asked three_bytes ≡ Ok 3
  pub drawn_asked : asked drawn_bytes ≡ Ok 3
  -- two vertices, and their mirror
  pub two_winners : (winner two 0 ≡ Zero) × (winner two 1 ≡ One)
  pub two_grades : (grade two 0 ≡ 2) × (grade two 1 ≡ 3)
  pub two_mirrored : (winner (mirror two) 0 ≡ One) × (winner (mirror two) 1 ≡ Zero)
  -- the loser's move at 1 is 1: by move 0 vertex 0 would be lost
  pub three_winners : (winner three 0 ≡ Zero) × (winner three 1 ≡ One) × (winner three 2 ≡ One)
  pub three_moves : (move three 0 ≡ 0) × (move three 1 ≡ 1) × (move three 2 ≡ 0)
  -- rounds of attraction
  pub drawn_grades : (grade drawn 0 ≡ 0) × (grade drawn 1 ≡ 0) × (grade drawn 2 ≡ 0)
  pub drawn_distances : (distance drawn 0 ≡ 2) × (distance drawn 1 ≡ 0) × (distance drawn 2 ≡ 1)
  pub drawn_moves : (move drawn 0 ≡ 0) × (move drawn 1 ≡ 0) × (move drawn 2 ≡ 0)
  -- the bytes are draft files, and make these automata
  pub branching_made : Makes 1 branching_bytes branching
  pub mailbox_made : Makes 2 mailbox_bytes mailbox
  pub posted_made : Makes 2 posted_bytes posted
  pub mailbox_length : length mailbox_bytes ≡ 96
  -- "or" and "and", and the same turned
  pub branching_answers : Answers branching 0 [] (0 ∷ []) Accepted × Answers branching 1 [] (0 ∷ []) Rejected
  pub branching_turns : turn_over branching ≡ (Ok tt, turned branching)
  pub turned_answers : Answers (turned branching) 0 [] (0 ∷ []) Rejected × Answers (turned branching) 1 [] (0 ∷ []) Accepted
  -- post and take in turn; takes for ever after one post
  pub mailbox_answers : Answers mailbox 0 [] (post ∷ take ∷ []) Accepted × Answers mailbox 0 (post ∷ []) (take ∷ []) Rejected
  -- a word that the mailbox accepts has a post; the other way containment is not shown
  pub mailbox_in_posted : Compares mailbox 0 posted 0 Contained
  pub mailbox_contained : Contained-in mailbox posted 0 0
  pub posted_in_mailbox : Compares posted 0 mailbox 0 NotShown
  -- the call for C on the two files, over two letters: 1 is contained, 0 not shown
  pub host_answers : (host_answer 2 mailbox_bytes posted_bytes 0 0 ≡ 1) × (host_answer 2 posted_bytes mailbox_bytes 0 0 ≡ 0)
