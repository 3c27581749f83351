-- The worked threads, each closed by computing its tests.
use Rattle.std.proofs.Common.{ℕ, List, [], ◌∷◌, refl}
use Rattle.locks.specs.Graphs.{Graph}
use Rattle.locks.specs.Sets.{none, has, add, del}
use Rattle.readers.specs.declared.listing.command.Command.{Command}
use Rattle.readers.specs.Graph.{listing_graph}
use Rattle.readers.specs.Reading.{run}
use Rattle.search.specs.declared.entries.Entry.{Entry}
use Rattle.worked_threads.specs.Threads.{inner_one, inner_zero, two_ways, outer_given_first, five_taken, four_taken, given_untaken, taken_twice}
use Rattle.worked_threads.specs.Worked.{holding_zero, WorkedThreadsComeOut}
use Rattle.worked_threads.proofs.Entries.{entries}
use Rattle.worked_threads.proofs.Pairs.{bytes_read, Thread, said, summary, shortest, never_crossed, never_holding, two_at, too_short}
use Rattle.worked_threads.proofs.Summing.{counted, nesting_refuses, depth_refuses}

-- what the bytes mean

abbrev commands : List ℕ → List Command
commands bytes = run 0 bytes

abbrev graph : List ℕ → Graph
graph bytes = listing_graph (commands bytes)

-- the entries, by parents and choices

abbrev of_inner_one : List Entry
of_inner_one = entries (graph inner_one) ((0, 0) ∷ (1, 0) ∷ (2, 0) ∷ [])

abbrev of_inner_zero : List Entry
of_inner_zero = entries (graph inner_zero) ((0, 0) ∷ (1, 0) ∷ (2, 0) ∷ [])

abbrev of_two_ways : List Entry
of_two_ways = entries (graph two_ways) ((0, 0) ∷ (1, 0) ∷ (1, 1) ∷ (2, 0) ∷ (4, 0) ∷ (5, 0) ∷ [])

inner_one_read : Thread inner_one (commands inner_one) of_inner_one
unfolding none has add del
inner_one_read = record { bytes_small = refl; reads = refl; test = refl }

inner_zero_read : Thread inner_zero (commands inner_zero) of_inner_zero
unfolding none has add del
inner_zero_read = record { bytes_small = refl; reads = refl; test = refl }

two_ways_read : Thread two_ways (commands two_ways) of_two_ways
unfolding none has add del
two_ways_read = record { bytes_small = refl; reads = refl; test = refl }

pub worked_threads_come_out_lem : WorkedThreadsComeOut
unfolding none has add del
worked_threads_come_out_lem =
    record {
      both_starts = (commands inner_one, said inner_one_read, (commands inner_zero, said inner_zero_read, shortest inner_one_read inner_zero_read 0 0 [] refl));
      left_first = (commands inner_one, said inner_one_read, (commands inner_zero, said inner_zero_read, shortest inner_one_read inner_zero_read 3 1 (0 ∷ 0 ∷ 0 ∷ 256 ∷ []) refl));
      left_first_in_a_short_list = (
        commands inner_one,
        said inner_one_read,
        (commands inner_zero, said inner_zero_read, too_short (graph inner_one) (graph inner_zero) 3 1 3 (0 ∷ 0 ∷ 0 ∷ 256 ∷ []) (shortest inner_one_read inner_zero_read 3 1 (0 ∷ 0 ∷ 0 ∷ 256 ∷ []) refl) refl),
      );
      right_first = (commands inner_one, said inner_one_read, (commands inner_zero, said inner_zero_read, shortest inner_one_read inner_zero_read 1 3 (256 ∷ 256 ∷ 256 ∷ 0 ∷ []) refl));
      never_by_histories = (commands inner_one, said inner_one_read, (commands inner_zero, said inner_zero_read, never_crossed inner_one_read inner_zero_read 3 3 refl refl));
      never_with_a_lock_in_common = (commands inner_one, said inner_one_read, (commands inner_zero, said inner_zero_read, never_holding inner_one_read inner_zero_read 2 1 1 refl refl));
      by_the_short_way = (commands two_ways, said two_ways_read, (commands inner_zero, said inner_zero_read, shortest two_ways_read inner_zero_read 5 3 (256 ∷ 256 ∷ 256 ∷ 0 ∷ 1 ∷ []) refl));
      inner_one_states = (commands inner_one, said inner_one_read, counted (graph inner_one) of_inner_one refl);
      inner_zero_states = (commands inner_zero, said inner_zero_read, counted (graph inner_zero) of_inner_zero refl);
      two_ways_states = (commands two_ways, said two_ways_read, counted (graph two_ways) of_two_ways refl);
      two_ways_meet = (commands two_ways, said two_ways_read, two_at (graph two_ways) of_two_ways (summary two_ways_read) 5 (holding_zero 5 none) (holding_zero 5 (add 1 none)) 2 5 refl);
      outer_given_first_refused = (commands outer_given_first, bytes_read outer_given_first (commands outer_given_first) refl refl, nesting_refuses (graph outer_given_first) (entries (graph outer_given_first) ((0, 0) ∷ (1, 0) ∷ [])) 32 refl);
      five_taken_refused = (commands five_taken, bytes_read five_taken (commands five_taken) refl refl, depth_refuses (graph five_taken) (entries (graph five_taken) ((0, 0) ∷ (1, 0) ∷ (2, 0) ∷ (3, 0) ∷ [])) 64 refl);
      four_taken_states = (commands four_taken, bytes_read four_taken (commands four_taken) refl refl, counted (graph four_taken) (entries (graph four_taken) ((0, 0) ∷ (1, 0) ∷ (2, 0) ∷ (3, 0) ∷ [])) refl);
      given_untaken_states = (commands given_untaken, bytes_read given_untaken (commands given_untaken) refl refl, counted (graph given_untaken) (entries (graph given_untaken) []) refl);
      taken_twice_states = (commands taken_twice, bytes_read taken_twice (commands taken_twice) refl refl, counted (graph taken_twice) (entries (graph taken_twice) ((0, 0) ∷ [])) refl);
    }
