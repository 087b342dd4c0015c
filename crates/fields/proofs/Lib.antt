-- `Numbers`: how reading and writing a number go on by a byte.
mod Numbers
