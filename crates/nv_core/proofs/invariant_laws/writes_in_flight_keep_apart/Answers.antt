use Rattle.nv_core.proofs.invariant.FlightLaws.{no_two_in_flight_of_a_page, no_two_in_flight_of_a_length, in_flight_are_apart, no_entry_above_in_flight, flights_are_numbered}
use Rattle.nv_core.proofs.invariant_laws.writes_in_flight_keep_apart.Goals as goal

pub returns : goal.returns
returns c = record {
  pages = no_two_in_flight_of_a_page;
  lengths = no_two_in_flight_of_a_length;
  apart = in_flight_are_apart;
  above = no_entry_above_in_flight;
  numbers = flights_are_numbered;
}
