-- The facts that make up `Worked`.
use Rattle.std.proofs.Common.{refl, lit<}
use Rattle.worked_examples.proofs.Arenas as arenas
use Rattle.worked_examples.proofs.Drafts as drafts
use Rattle.worked_examples.proofs.Words as words
use Rattle.worked_examples.proofs.Pairs as pairs
use Rattle.worked_examples.proofs.worked.Goals as goal

pub returns : goal.returns
returns c = record {
  two_asked = arenas.two_asked;
  three_asked = arenas.three_asked;
  drawn_asked = arenas.drawn_asked;
  two_winners = arenas.two_won;
  two_grades = ((arenas.two_tabled 0 (lit< tt)).grade_at, (arenas.two_tabled 1 (lit< tt)).grade_at);
  two_mirrored = arenas.two_mirrored;
  three_winners = arenas.three_won;
  three_moves = arenas.three_moves;
  drawn_grades = ((arenas.drawn_tabled 0 (lit< tt)).grade_at, (arenas.drawn_tabled 1 (lit< tt)).grade_at, (arenas.drawn_tabled 2 (lit< tt)).grade_at);
  drawn_distances = ((arenas.drawn_tabled 0 (lit< tt)).distance_at, (arenas.drawn_tabled 1 (lit< tt)).distance_at, (arenas.drawn_tabled 2 (lit< tt)).distance_at);
  drawn_moves = arenas.drawn_moves;
  branching_made = drafts.branching_made;
  mailbox_made = drafts.mailbox_made;
  posted_made = drafts.posted_made;
  mailbox_length = refl;
  branching_answers = words.branching_answers;
  branching_turns = drafts.branching_turns;
  turned_answers = words.turned_answers;
  mailbox_answers = words.mailbox_answers;
  mailbox_in_posted = pairs.mailbox_in_posted;
  mailbox_contained = pairs.mailbox_contained;
  posted_in_mailbox = pairs.posted_in_mailbox;
  host_answers = pairs.host_answers;
}
