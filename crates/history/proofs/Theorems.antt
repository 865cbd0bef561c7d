-- What specs/Theorems states, each under its own name.
use Rattle.history.specs.Theorems.{CallIsFigures, ViewIsReturned, LookShowsView, EveryStateShaped, NeverOneNorSeven}
use Rattle.history.specs.Theorems.{AloneNeverOneNorSeven, AtMostXReachX, ReachedIsBegun}
use Rattle.history.specs.Theorems.{ThreeProperties, ThreePropertiesOfSets, ViewsAreGiven, ExactSteps, EnoughSteps}
use Rattle.history.specs.Theorems.{AccessesCounted, WaitFree, CrashedStays, FinishedStays, WrittenStays}
use Rattle.history.specs.Theorems.{AloneFinishes, CountsOfRuns, EnteredByCall}
use Rattle.history.specs.IsFigure.{EveryRunIsFigure}
use Rattle.history.specs.Demand.{EveryRunDemandThree}
use Rattle.history.proofs.Moves
use Rattle.history.proofs.Counts
use Rattle.history.proofs.Figure
use Rattle.history.proofs.World
use Rattle.history.proofs.Levels
use Rattle.history.proofs.Answers
use Rattle.history.proofs.Snapshot
use Rattle.history.proofs.Alone
use Rattle.history.proofs.Demand
use Rattle.history.proofs.Stays
use Rattle.history.proofs.Looks
use Rattle.history.proofs.Given

pub call_is_figures : CallIsFigures
call_is_figures = World.call_is_figures

pub every_run_is_figure : EveryRunIsFigure
every_run_is_figure = World.every_run_is_figure

pub view_is_returned : ViewIsReturned
view_is_returned = Figure.view_is_returned

pub look_shows_view : LookShowsView
look_shows_view = Looks.look_shows_view

pub every_state_shaped : EveryStateShaped
every_state_shaped = Moves.every_state_shaped

pub never_one_nor_seven : NeverOneNorSeven
never_one_nor_seven = Answers.never_one_nor_seven

pub alone_never_one_nor_seven : AloneNeverOneNorSeven
alone_never_one_nor_seven = Alone.alone_never_one_nor_seven

pub at_most_x_reach_x : AtMostXReachX
at_most_x_reach_x = Levels.at_most_x_reach_x

pub reached_is_begun : ReachedIsBegun
reached_is_begun = Demand.reached_is_begun

pub every_run_demand_three : EveryRunDemandThree
every_run_demand_three = Demand.every_run_demand_three

pub three_properties : ThreeProperties
three_properties = Snapshot.three_properties

pub three_properties_of_sets : ThreePropertiesOfSets
three_properties_of_sets = Snapshot.three_properties_of_sets

pub views_are_given : ViewsAreGiven
views_are_given = Snapshot.views_are_given

pub exact_steps : ExactSteps
exact_steps = Counts.exact_steps

pub enough_steps : EnoughSteps
enough_steps = Counts.enough_steps

pub accesses_counted : AccessesCounted
accesses_counted = Counts.accesses_counted

pub wait_free : WaitFree
wait_free = Alone.wait_free

pub crashed_stays : CrashedStays
crashed_stays = Stays.crashed_stays

pub finished_stays : FinishedStays
finished_stays = Stays.finished_stays

pub written_stays : WrittenStays
written_stays = Stays.written_stays

pub alone_finishes : AloneFinishes
alone_finishes = Alone.alone_finishes

pub counts_of_runs : CountsOfRuns
counts_of_runs = Counts.counts_of_runs

pub entered_by_call : EnteredByCall
entered_by_call = Given.entered_by_call
