-- `Forming`: the tests of the tags. `Choosing`: the search for the smallest tag.
mod Forming
mod Choosing
