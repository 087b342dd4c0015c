-- `Forming`: what each way through the test of one queue finds. `Testing`: a turn of each loop of the form test, and
-- how the parts make the whole. `Placing`: refusals 7, 8 and 9. `Opens`: what each way through an opening gives.
mod Forming
mod Testing
mod Placing
mod Opens
